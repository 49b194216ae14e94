-- Laws of the guard table's layout: where rows and entries lie, and what stands in the table of given entries.
-- Assumes nothing.
use Rattle.std.specs.Prelude.{◌≡◌, true, cond, eqb, ◌||◌, List, ◌++◌, ℕ, ◌+◌, ◌*◌, ◌^◌, ◌/◌, ◌%◌, ◌≤◌, ◌<◌}
use Rattle.std.proofs.Math.Path.{refl, ap}
use Rattle.std.proofs.Common.{ap₂, ◌∙◌, mul-zero, pow_mono, get_or-append-add}
use Rattle.std.proofs.Math.Nat.{suc-mul, mul_comm, mul-le-mul, mul-le-mul_right, zero-mul, add-zero}
use native.Mathlib.Omega.{arith}
use Rattle.std.proofs.Math.ListN.{length, get_or, length-append}
use borrow.Author.Tests.{eq-eqb, le-leb}
use Rattle.records.specs.Meaning.Limits.{max_inputs, max_states}
use Rattle.records.specs.Meaning.Lists.{cat}
use Rattle.records.specs.Laws.Lists.{length-cat, get_d_cat, cat_ext}
use Rattle.records.specs.Meaning.Numbers.{u16_at}
use Rattle.records.specs.Meaning.Records.{header, header_size}
use Rattle.guard_table.specs.Meaning.RowKind.{kind_number, entry_width, next_at}
use Rattle.guard_table.specs.Meaning.GuardTable.{head_kind, head_size, row_size, head_length, row_length, length_in, row_at, entry_at, head_mode, head_inputs, head_outputs, head_horizon, head_count, header_is, first_kind, shown_length, shows_kind, kind_of, output_in, next_in, guard_head, guard_entry, guard_row, table_in}
use Rattle.guard_table.specs.Meaning.NarrowTable.{narrow_row, narrow_table}
use Rattle.guard_table.specs.Laws.RowKind.{width-least, width_most}
use Rattle.guard_table.specs.Model.Inside.{row_most, table_most, Sized, Closed, RowInside, Inside}
use Rattle.guard_table.specs.declared.kind.RowKind.{RowKind}
use Rattle.guard_table.specs.declared.kind.RowKind.TheVariants.{Narrow, Wide}

-- ---- inside a table of `count` states

module _ (kind : RowKind) where
  pub row_fits : (inputs place count : ℕ) → place < count → row_at kind inputs place + row_length kind inputs ≤ length_in kind inputs count
  unfolding row_at length_in
  row_fits i p n h = let k = rw suc-mul at (mul-le-mul_right (row_length kind i) h) in omega (arith, k)

  entry_of-row : (inputs place input : ℕ)
      → entry_at kind inputs place input ≡ row_at kind inputs place + (header_size + entry_width kind * input)
  unfolding entry_at
  entry_of-row i p x = refl

  -- the entries of a row stand one after the other, after its header
  pub entries_begin : (inputs place : ℕ) → entry_at kind inputs place 0 ≡ row_at kind inputs place + header_size
  entries_begin i p = rw mul-zero at (entry_of-row i p 0)

  pub entry_next_to : (inputs place input : ℕ) → entry_at kind inputs place input ≡ entry_at kind inputs place 0 + input * entry_width kind
  entry_next_to i p x = omega (arith, entry_of-row i p x, entries_begin i p, mul_comm (entry_width kind) x)

  -- an entry lies inside its row
  entry_in_row : (inputs input : ℕ) → input < 2 ^ inputs → header_size + (entry_width kind * input + entry_width kind) ≤ row_length kind inputs
  unfolding row_length
  entry_in_row i x h =
      let k = rw suc-mul at (mul-le-mul_right (entry_width kind) h) in
      omega (arith, k, mul_comm (entry_width kind) x, mul_comm (entry_width kind) (2 ^ i))

  -- no row's body, and no table, is longer than the longest
  pub row_most_lem : (inputs : ℕ) → inputs ≤ max_inputs → row_size kind inputs ≤ row_most
  row_most_lem i m = mul-le-mul (width_most kind) (pow_mono {i = i} {j = max_inputs} m)

  pub length_most : (inputs count : ℕ) → inputs ≤ max_inputs → count ≤ max_states → length_in kind inputs count ≤ table_most
  unfolding length_in row_length
  length_most i n m c =
      let wide : row_length kind i ≤ header_size + row_most = omega (arith, row_most_lem i m) in
      omega (arith, mul-le-mul c wide)

  -- the row of a state lies inside a slice that is as long as the table, or longer
  pub row_inside : {t : List ℕ} {inputs place count : ℕ} → inputs ≤ max_inputs → count ≤ max_states
      → length_in kind inputs count ≤ length t → place < count → RowInside t kind inputs place
  row_inside {inputs = i} {place = p} {count = n} m c f h =
      record { inputs_most = m; place_most = omega arith; ends = omega (arith, row_fits i p n h) }

  -- and inside every slice of the same length
  pub row_kept : {t u : List ℕ} {inputs place : ℕ} → RowInside t kind inputs place → length u ≡ length t → RowInside u kind inputs place
  row_kept r e = record { inputs_most = r.inputs_most; place_most = r.place_most; ends = omega (arith, r.ends) }

  -- and so do its header and its entries
  pub header_inside : {t : List ℕ} {inputs place : ℕ} → RowInside t kind inputs place → row_at kind inputs place + 3 < length t
  unfolding row_length
  header_inside r = omega (arith, r.ends)

  pub entry_ends : {t : List ℕ} {inputs place input : ℕ} → RowInside t kind inputs place → input < 2 ^ inputs
      → entry_at kind inputs place input + entry_width kind ≤ length t
  entry_ends {inputs = i} {place = p} {input = x} r l = omega (arith, r.ends, entry_of-row i p x, entry_in_row i x l)

-- in the rows that the table shows
pub sized_row : {t : List ℕ} {inputs place count : ℕ} → Sized t inputs count → place < count → RowInside t (kind_of t) inputs place
sized_row {t} s h = row_inside (kind_of t) s.inputs_most s.count_most (omega (arith, s.fills)) h

pub entry_inside : {t : List ℕ} {inputs place input : ℕ} → RowInside t (kind_of t) inputs place → input < 2 ^ inputs
    → Inside t inputs place input
entry_inside {t} r l =
    record { inputs_most = r.inputs_most; place_most = r.place_most; low = l; ends = entry_ends (kind_of t) r l }

-- a next state that was read from a table whose next states are its own is below the number of states that there may be
pub next_few : {t : List ℕ} {inputs count : ℕ} → Closed t inputs count → (place input : ℕ) → place < count → input < 2 ^ inputs
    → {next : ℕ} → next ≡ next_in t inputs place input → next < max_states
next_few c k i h l e = omega (arith, c.next_low k i h l, c.sized.count_most)

-- a slice with an entry inside shows its first row's kind
pub inside_shows : {t : List ℕ} {inputs place input : ℕ} → Inside t inputs place input → shown_length ≤ length t
unfolding entry_at row_at
inside_shows n = omega (arith, n.ends)

pub row_shows : {t : List ℕ} {kind : RowKind} {inputs place : ℕ} → RowInside t kind inputs place → shown_length ≤ length t
unfolding row_at row_length
row_shows r = omega (arith, r.ends)

-- ---- an entry that is read by the kind that was found

module _ (t : List ℕ) (inputs place input : ℕ) {kind : RowKind} (shown : kind ≡ kind_of t) {at : ℕ}
    (stands : at ≡ entry_at kind inputs place input) where
  -- lies inside
  pub entry_lies : Inside t inputs place input → at + entry_width kind ≤ length t
  entry_lies h = rw (stands, shown) h.ends

  -- and is the entry of the state and the input
  pub entry_read : {next : ℕ} → next ≡ next_at kind t (at + 1)
      → (get_or t at 0 ≡ output_in t inputs place input) × (next ≡ next_in t inputs place input)
  unfolding output_in next_in
  entry_read e = (rw (stands, shown), e ∙ rw (stands, shown))

-- ---- a row

module _ (kind : RowKind) where
  pub length_entry : (output next : ℕ) → length (guard_entry kind output next) ≡ entry_width kind
  length_entry o n = elim kind as (λ k. length (guard_entry k o n) ≡ entry_width k) [ Narrow ↦ refl | Wide ↦ refl ]

  pub length-row : (inputs : ℕ) (out next : ℕ → ℕ) → length (guard_row kind inputs out next) ≡ row_length kind inputs
  unfolding guard_row row_length
  length-row i o n =
      length-append (header (row_size kind i) (kind_number kind)) (cat (2 ^ i) (λ x. guard_entry kind (o x) (n x)))
      ∙ omega (
        arith,
        length-cat (entry_width kind) (2 ^ i) (λ x. guard_entry kind (o x) (n x)) (λ x h. length_entry (o x) (n x)),
        mul_comm (entry_width kind) (2 ^ i),
      )

  -- byte b of the entry for an input
  row_entry : (inputs : ℕ) (out next : ℕ → ℕ) (input b : ℕ) → input < 2 ^ inputs → b < entry_width kind
      → get_or (guard_row kind inputs out next) (header_size + (entry_width kind * input + b)) 0
      ≡ get_or (guard_entry kind (out input) (next input)) b 0
  unfolding guard_row
  row_entry i o n x b h l =
      rw (mul_comm (entry_width kind) x)
      (get_or-append-add (header (row_size kind i) (kind_number kind)) (cat (2 ^ i) (λ k. guard_entry kind (o k) (n k)))
      (x * entry_width kind + b) 0
      ∙ get_d_cat (entry_width kind) (2 ^ i) (λ k. guard_entry kind (o k) (n k)) (λ k m. length_entry (o k) (n k)) x b 0 h l)

-- an entry whose bytes stand in a slice has its next state there
next_read : (kind : RowKind) (t : List ℕ) (at output next : ℕ)
    → ((b : ℕ) → b < entry_width kind → get_or t (at + b) 0 ≡ get_or (guard_entry kind output next) b 0) → next_at kind t (at + 1) ≡ next
unfolding u16_at
next_read Narrow t at output next f = f 1 (omega arith)
next_read Wide t at output next f =
    let high : get_or t (at + 1 + 1) 0 ≡ next / 256 = ap (λ (n : ℕ). get_or t n 0) (omega arith) ∙ f 2 (omega arith) in
    omega (arith, f 1 (omega arith), high)

-- ---- the table

-- tables with the same entries are the same
pub table_ext : (kind : RowKind) (mode inputs outputs horizon count : ℕ) (out next out' next' : ℕ → ℕ → ℕ)
    → ((k i : ℕ) → k < count → i < 2 ^ inputs → out k i ≡ out' k i)
    → ((k i : ℕ) → k < count → i < 2 ^ inputs → next k i ≡ next' k i)
    → table_in kind mode inputs outputs horizon count out next ≡ table_in kind mode inputs outputs horizon count out' next'
unfolding table_in guard_row
table_ext kind mode inputs outputs horizon count out next out' next' e f =
    ap (λ (l : List ℕ). guard_head mode inputs outputs horizon count ++ l)
    (cat_ext count _ _ (λ k hk.
    ap (λ (l : List ℕ). header (row_size kind inputs) (kind_number kind) ++ l)
    (cat_ext (2 ^ inputs) _ _ (λ i hi. ap₂ (guard_entry kind) (e k i hk hi) (f k i hk hi)))))

-- what the head reads, the kind that the first row shows, and that the table fills its bytes exactly
pub record HeadReads (t : List ℕ) (kind : RowKind) (mode inputs outputs horizon count : ℕ) : Type 0 where
  pub header_is_lem : header_is t 0 head_size head_kind ≡ true
  pub mode_is : head_mode t ≡ mode
  pub inputs_is : head_inputs t ≡ inputs
  pub outputs_is : head_outputs t ≡ outputs
  pub horizon_is : head_horizon t ≡ horizon
  pub count_is : head_count t ≡ count
  pub fills : length t ≡ length_in kind inputs count

module _ (kind : RowKind) (mode inputs outputs horizon count : ℕ) (out next : ℕ → ℕ → ℕ) where
  abbrev table : List ℕ
  table = table_in kind mode inputs outputs horizon count out next

  abbrev head : List ℕ
  head = guard_head mode inputs outputs horizon count

  abbrev row : ℕ → List ℕ
  row k = guard_row kind inputs (out k) (next k)

  rows : (k : ℕ) → k < count → length (row k) ≡ row_length kind inputs
  rows k h = length-row kind inputs (out k) (next k)

  pub length-table : length table ≡ length_in kind inputs count
  unfolding table_in length_in
  length-table = length-append head (cat count row) ∙ ap (λ (k : ℕ). head_length + k) (length-cat (row_length kind inputs) count row rows)

  pub table_head_lem : HeadReads table kind mode inputs outputs horizon count
  unfolding table_in header_is u16_at
  table_head_lem =
      record {
        header_is_lem = refl;
        mode_is = refl;
        inputs_is = refl;
        outputs_is = refl;
        horizon_is = refl;
        count_is = omega arith;
        fills = length-table;
      }

  -- byte j of the row of state k
  table_row_lem : (k j : ℕ) → k < count → j < row_length kind inputs
      → get_or table (row_at kind inputs k + j) 0 ≡ get_or (row k) j 0
  unfolding table_in row_at
  table_row_lem k j h l =
      let at : head_length + k * row_length kind inputs + j ≡ head_length + (k * row_length kind inputs + j) = omega arith in
      rw at (get_or-append-add head (cat count row) (k * row_length kind inputs + j) 0
      ∙ get_d_cat (row_length kind inputs) count row rows k j 0 h l)

  module _ (k : ℕ) (h : k < count) where
    -- the header of its row
    row-kind : u16_at table (row_at kind inputs k + 2) ≡ kind_number kind
    unfolding u16_at row_length guard_row
    row-kind =
        let b2 : get_or table (row_at kind inputs k + 2) 0 ≡ kind_number kind % 256 = table_row_lem k 2 h (omega arith) in
        let b3 : get_or table (row_at kind inputs k + 2 + 1) 0 ≡ kind_number kind / 256 =
        ap (λ (n : ℕ). get_or table n 0) (omega arith) ∙ table_row_lem k 3 h (omega arith) in
        rw (b2, b3) (omega arith)

    pub row-header : header_is table (row_at kind inputs k) (row_size kind inputs) (kind_number kind) ≡ true
    unfolding header_is u16_at row_length guard_row
    row-header =
        let size = row_size kind inputs in
        let b0 : get_or table (row_at kind inputs k) 0 ≡ size % 256 = rw add-zero at (table_row_lem k 0 h (omega arith)) in
        let b1 : get_or table (row_at kind inputs k + 1) 0 ≡ size / 256 = table_row_lem k 1 h (omega arith) in
        let back : size % 256 + 256 * (size / 256) ≡ size = omega arith in
        simp (b0, b1, back, row-kind, eq-eqb size size refl, eq-eqb (kind_number kind) (kind_number kind) refl)

  -- the first row shows the kind
  module _ (some : 1 ≤ count) where
    first_kind_lem : first_kind table ≡ kind_number kind
    unfolding row_at
    first_kind_lem = rw zero-mul at (row-kind 0 some)

    pub table-kind : kind_of table ≡ kind
    unfolding kind_of
    table-kind =
        rw first_kind_lem
        (elim kind as (λ k. cond (eqb (kind_number k) (kind_number Wide)) Wide Narrow ≡ k) [ Narrow ↦ refl | Wide ↦ refl ])

    pub table_shows : shows_kind table ≡ true
    unfolding shows_kind length_in row_length
    table_shows =
        let long : shown_length ≤ length table = omega (arith, length-table, mul-le-mul_right (row_length kind inputs) some) in
        rw (first_kind_lem, le-leb shown_length (length table) long)
        (elim kind as (λ k. eqb (kind_number k) (kind_number Narrow) || eqb (kind_number k) (kind_number Wide) ≡ true) [
          | Narrow ↦ refl
          | Wide ↦ refl
        ])

  module _ (k : ℕ) (h : k < count) (i : ℕ) (l : i < 2 ^ inputs) where
    -- byte b of the entry of state k and input i
    table_entry : (b : ℕ) → b < entry_width kind
        → get_or table (entry_at kind inputs k i + b) 0 ≡ get_or (guard_entry kind (out k i) (next k i)) b 0
    table_entry b m =
        let at : entry_at kind inputs k i + b ≡ row_at kind inputs k + (header_size + (entry_width kind * i + b)) =
        omega (arith, entry_of-row kind inputs k i) in
        rw at (table_row_lem k (header_size + (entry_width kind * i + b)) h (omega (arith, entry_in_row kind inputs i l))
        ∙ row_entry kind inputs (out k) (next k) i b l m)

    shown : kind_of table ≡ kind
    shown = table-kind (omega arith)

    pub entry_output : output_in table inputs k i ≡ out k i
    unfolding output_in
    entry_output =
        rw (shown, ← add-zero (entry_at kind inputs k i)) (table_entry 0 (omega (arith, width-least kind)))

    pub entry_next : next_in table inputs k i ≡ next k i
    unfolding next_in
    entry_next = rw shown (next_read kind table (entry_at kind inputs k i) (out k i) (next k i) table_entry)

-- ---- narrow rows are document 01's

pub table_narrow : (mode inputs outputs horizon count : ℕ) (out next : ℕ → ℕ → ℕ)
    → table_in Narrow mode inputs outputs horizon count out next ≡ narrow_table mode inputs outputs horizon count out next
unfolding table_in guard_row narrow_table narrow_row
table_narrow mode inputs outputs horizon count out next = refl

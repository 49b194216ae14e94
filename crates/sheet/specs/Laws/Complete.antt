-- The bytes of a sheet in bounds are accepted, and the layout stands for that sheet.
-- Assumes nothing.
use Rattle.std.specs.Prelude.{◌≡◌, true, eqb, get_or, Ok}
use Rattle.std.proofs.Math.Path.{refl, sym, ap}
use Rattle.std.proofs.Common.{◌∙◌, mul-le-mul, length-append, get_or-append-add, pow_mono}
use mathlib.Core.List.{List, [], ◌∷◌, ◌++◌, append_assoc, append-nil}
use Prim.Native.Nat.{ℕ, zero, suc, ◌+◌, ◌*◌, ◌/◌, ◌%◌, ◌≤◌, ◌<◌}
use native.Mathlib.Omega.{arith}
use Rattle.std.proofs.Math.ListN.{length, get_or-append}
use borrow.Author.Tests.{le-leb}
use Rattle.records.specs.Laws.Tests.{by_test}
use Rattle.records.specs.Meaning.Lists.{tab, cat}
use Rattle.records.specs.Laws.Lists.{tab_eq, cat-at}
use Rattle.records.specs.Meaning.Numbers.{Bytes, u16_at}
use Rattle.records.specs.Laws.Numbers.{bytes_small, bytes_append, bytes_of, bytes-cat}
use Rattle.records.specs.Meaning.Records.{size_at, kind_at}
use Rattle.records.specs.Meaning.Limits.{max_lines, max_horizon, max_monitor_states, horizon_ok, max_letters}
use Rattle.sheet.specs.Meaning.Decoded.{Automaton, Decoded, no_automaton, monitor_of, guard_lines, input_lines, letters_read, letters, HeadOk, HorizonOk, MonitorOk, SheetOk, encode_head, encode_monitor, encode}
use Rattle.sheet.specs.Meaning.Grounds.{verdict_number}
use Rattle.sheet.specs.Model.Where.{automaton, placed, decoded}
use Rattle.sheet_fields.specs.Meaning.Places.{mode_at, site_at, outputs_at, horizon_at, matching_at, literals_from}
use Rattle.sheet_fields.specs.Meaning.Head.{head_ok}
use Rattle.sheet_fields.specs.Laws.FieldFacts.{site_le}
use Rattle.sheet.specs.Model.HeadRecord.{head_sheet}
use Rattle.sheet.specs.Model.Reader.{reading}
use Rattle.sheet.specs.Laws.Turns.{offset, upto, Turn, Chain, chain_reads, placed_at}
use Rattle.sheet.specs.Laws.Judged.{JudgedNumbers, Literals, head-test}
use Rattle.sheet.specs.Laws.Sound.{literal_is}
use Rattle.sheet.specs.Laws.MonitorBytes.{row_bytes, length_monitor, size_back, kind_back, monitor_passes, monitor_back}
use Rattle.sheet.specs.declared.layout.Sheet.{Sheet}

-- ---- the head

module _ (s r : List ℕ) (d : Decoded) (o : HeadOk d) (e : s ≡ encode_head d ++ r) where
  mode_back : mode_at s 4 ≡ d.mode
  unfolding encode_head
  mode_back = rw e

  site_back : site_at s 4 ≡ d.site
  unfolding encode_head
  site_back = rw e

  outputs_back : outputs_at s 4 ≡ d.outputs
  unfolding encode_head
  outputs_back = rw e

  horizon_back : horizon_at s 4 ≡ d.horizon
  unfolding encode_head
  horizon_back = rw e

  matching_back : matching_at s 4 ≡ d.matching
  unfolding encode_head
  matching_back = rw e

  head_size_lem : size_at s 0 ≡ 5 + d.outputs
  unfolding encode_head u16_at
  head_size_lem = rw e (omega arith)

  head_kind_lem : kind_at s 0 ≡ 1
  unfolding encode_head u16_at
  head_kind_lem = rw e

  literal_back : (j : ℕ) → j < d.outputs → get_or s (9 + j) 0 ≡ get_or d.literals j 0
  unfolding encode_head
  literal_back j l =
      let n : ℕ = 5 + d.outputs in
      rw e
      (get_or-append-add (n % 256 ∷ n / 256 ∷ 1 ∷ 0 ∷ d.mode ∷ d.site ∷ d.outputs ∷ d.horizon ∷ d.matching ∷ []) (d.literals ++ r) j 0
      ∙ get_or-append d.literals r 0 j (omega (arith, o.literals)))

  numbers : JudgedNumbers (mode_at s 4) (site_at s 4) (outputs_at s 4) (matching_at s 4) (size_at s 0)
  numbers =
      rw (mode_back, site_back, outputs_back, matching_back, head_size_lem)
      (record {
        mode_most = o.mode;
        site_most = o.site;
        outputs_least = o.outputs_least;
        outputs_most = o.outputs_most;
        inputs = o.inputs;
        lines = o.lines;
        size_is = refl;
        unmatched = o.matching;
      })

  literals : Literals s (literals_from 4) (outputs_at s 4)
  literals =
      rw outputs_back
      (record {
        byte = λ j l. rw (literal_back j l) (o.literal_byte j l);
        line = λ j l. rw (literal_back j l) (o.literal_line j l);
        once = λ i j u l q. o.literal_once i j u l (omega (arith, literal_back i (omega arith), literal_back j l));
      })

  head-passes : head_ok s 4 (size_at s 0) ≡ true
  head-passes = head-test s (size_at s 0) numbers literals

  horizon_passes : HorizonOk d → horizon_ok (guard_lines (mode_at s 4) (site_at s 4) (outputs_at s 4)) (horizon_at s 4) ≡ true
  unfolding horizon_ok
  horizon_passes h =
      rw (
        mode_back,
        site_back,
        outputs_back,
        horizon_back,
        le-leb d.horizon max_horizon h.most,
        le-leb (input_lines d * d.horizon) max_horizon h.product_most,
      )

  literals_back : tab (outputs_at s 4) (λ j. get_or (head_sheet s 4).literals j 0) ≡ d.literals
  literals_back =
      sym
      (tab_eq 0 (outputs_at s 4) (λ j. get_or (head_sheet s 4).literals j 0) d.literals (o.literals ∙ sym outputs_back)
      (λ j l. sym (literal_is s j l numbers.outputs_most ∙ literal_back j (omega (arith, outputs_back)))))

-- ---- the whole sheet

-- the records of the monitors
abbrev block : Decoded → ℕ → List ℕ
block d j = encode_monitor d (monitor_of d j)

-- the head and the first j monitors
abbrev front : Decoded → ℕ → List ℕ
front d j = encode_head d ++ cat j (block d)

length-head : (d : Decoded) → HeadOk d → length (encode_head d) ≡ 9 + d.outputs
unfolding encode_head
length-head d o = omega (arith, o.literals)

length_front : (d : Decoded) (j : ℕ) → length (front d (suc j)) ≡ length (front d j) + length (block d j)
unfolding cat
length_front d j =
    rw (
      length-append (encode_head d) (cat j (block d) ++ block d j),
      length-append (cat j (block d)) (block d j),
      length-append
          (encode_head d) (cat j (block d)),
    )
    (omega arith)

module _ (d : Decoded) (o : SheetOk d) where
  whole : encode d ≡ encode_head d ++ cat (length d.monitors) (block d)
  unfolding encode
  whole = refl

  -- what stands before and after monitor j
  around : (j : ℕ) → j < length d.monitors → (r : List ℕ) × (encode d ≡ front d j ++ (block d j ++ r))
  around j l =
      let c : (r : List ℕ) × (cat (length d.monitors) (block d) ≡ cat j (block d) ++ (block d j ++ r)) =
      cat-at (length d.monitors) (block d) j l in (
        c.0,
        whole ∙ ap (λ (t : List ℕ). encode_head d ++ t) c.1 ∙ sym
            (append_assoc (encode_head d) (cat j (block d)) (block d j ++ c.0)),
      )

  -- its record begins where the reader looks for it
  offset_is : (j : ℕ) → j ≤ length d.monitors → offset (encode d) j ≡ length (front d j)
  unfolding offset cat
  offset_is zero l =
      omega (
        arith,
        head_size_lem (encode d) (cat (length d.monitors) (block d)) d o.head whole,
        length-head d o.head,
        ap length (append-nil (encode_head d)),
      )
  offset_is (suc j) l =
      let r : (r : List ℕ) × (encode d ≡ front d j ++ (block d j ++ r)) = around j l in
      let at : offset (encode d) j ≡ length (front d j) = offset_is j (omega arith) in
      let size : u16_at (encode d) (length (front d j))
      ≡ 4 + length (monitor_of d j).accept + length (monitor_of d j).accept * letters d (monitor_of d j) =
      size_back (encode d) (front d j) r.0 d (monitor_of d j) (o.monitor j l) r.1 in
      rw (at, size, length_front d j, length_monitor d (monitor_of d j) (o.monitor j l)) (omega arith)

  upto_mode : (k : ℕ) → (upto (encode d) k).mode ≡ d.mode
  unfolding upto
  upto_mode k = mode_back (encode d) (cat (length d.monitors) (block d)) d o.head whole

  upto_site : (k : ℕ) → (upto (encode d) k).site ≡ d.site
  unfolding upto
  upto_site k = site_back (encode d) (cat (length d.monitors) (block d)) d o.head whole

  upto-outputs : (k : ℕ) → (upto (encode d) k).outputs ≡ d.outputs
  unfolding upto
  upto-outputs k = outputs_back (encode d) (cat (length d.monitors) (block d)) d o.head whole

  turn : (j : ℕ) → j < length d.monitors → Turn (encode d) j
  turn j l =
      let r : (r : List ℕ) × (encode d ≡ front d j ++ (block d j ++ r)) = around j l in
      let at : offset (encode d) j ≡ length (front d j) = offset_is j (omega arith) in
      record {
        kind = rw at (kind_back (encode d) (front d j) r.0 d (monitor_of d j) (o.monitor j l) r.1);
        ok = rw at
            (monitor_passes (encode d) (front d j) r.0 d (monitor_of d j) (o.monitor j l) r.1
            (upto (encode d) j) (upto_mode j) (upto_site j) (upto-outputs j));
      }

  -- the sheet's records pass their tests
  pub chain : Chain (encode d) (length d.monitors)
  chain =
      let r : List ℕ = cat (length d.monitors) (block d) in
      record {
        kind = head_kind_lem (encode d) r d o.head whole;
        head = head-passes (encode d) r d o.head whole;
        horizon = horizon_passes (encode d) r d o.head whole o.horizon;
        count = o.count;
        turn = turn;
        ends = offset_is (length d.monitors) (omega arith) ∙ ap length (sym whole);
      }

  monitor_there : (j : ℕ) → j < length d.monitors
      → monitor_of d j ≡ automaton (encode d) (upto (encode d) (length d.monitors)) (placed (upto (encode d) (length d.monitors)) j)
  monitor_there j l =
      let n : ℕ = length d.monitors in
      let r : (r : List ℕ) × (encode d ≡ front d j ++ (block d j ++ r)) = around j l in
      rw (placed_at (encode d) n j o.count l, offset_is j (omega arith))
      (sym
      (monitor_back (encode d) (front d j) r.0 d (monitor_of d j) (o.monitor j l) r.1 (upto (encode d) n) (upto_mode n)
      (upto_site n) (upto-outputs n)))

  -- and the layout stands for it
  pub decoded_back : decoded (encode d) (upto (encode d) (length d.monitors)) ≡ d
  unfolding decoded upto
  decoded_back =
      let n : ℕ = length d.monitors in
      let r : List ℕ = cat n (block d) in
      λ t. record {
        mode = mode_back (encode d) r d o.head whole t;
        site = site_back (encode d) r d o.head whole t;
        outputs = outputs_back (encode d) r d o.head whole t;
        horizon = horizon_back (encode d) r d o.head whole t;
        matching = matching_back (encode d) r d o.head whole t;
        literals = literals_back (encode d) r d o.head whole t;
        monitors =
            sym (tab_eq no_automaton n (λ j. automaton (encode d) (upto (encode d) n) (placed (upto (encode d) n) j)) d.monitors refl
            monitor_there) t;
      }

-- ---- what a sheet in bounds promises

-- its bytes are accepted
pub encode-accepted : (d : Decoded) → SheetOk d → verdict_number (reading (encode d)) ≡ 0
encode-accepted d o = rw (chain_reads (encode d) (length d.monitors) (chain d o))

-- and read as that sheet
pub decode_encode : (d : Decoded) → SheetOk d → (h : Sheet) × (reading (encode d) ≡ Ok h) × (decoded (encode d) h ≡ d)
decode_encode d o =
    (upto (encode d) (length d.monitors), chain_reads (encode d) (length d.monitors) (chain d o), decoded_back d o)

-- ---- they are bytes

-- a monitor reads at most 64 letters
letters_most : (d : Decoded) → HeadOk d → (a : Automaton) → letters d a ≤ max_letters
unfolding letters_read
letters_most d o a =
    by_test (eqb a.role 2) (λ e. rw e (omega arith))
    (λ e.
    let most : d.site + d.outputs ≤ max_lines = omega (arith, site_le d.mode d.site d.outputs, o.lines) in
    rw e (pow_mono most))

bytes-head : (d : Decoded) → HeadOk d → HorizonOk d → Bytes (encode_head d)
unfolding encode_head
bytes-head d o h =
    let n : ℕ = 5 + d.outputs in
    bytes_append (n % 256 ∷ n / 256 ∷ 1 ∷ 0 ∷ d.mode ∷ d.site ∷ d.outputs ∷ d.horizon ∷ d.matching ∷ []) d.literals
    (bytes_small (n % 256 ∷ n / 256 ∷ 1 ∷ 0 ∷ d.mode ∷ d.site ∷ d.outputs ∷ d.horizon ∷ d.matching ∷ []) (omega arith))
    (bytes_of d.literals (λ j l. omega (arith, o.literal_byte j (omega (arith, o.literals)))))

bytes-rows : (d : Decoded) (a : Automaton) → MonitorOk d a → Bytes (row_bytes a)
bytes-rows d a o =
    bytes-cat (length a.rows) (λ q. get_or a.rows q [])
    (λ q l.
    let u : q < length a.accept = omega (arith, o.rows) in
    bytes_of (get_or a.rows q []) (λ i v. omega (arith, o.next q i u (omega (arith, o.row q u)), o.states_most)))

bytes_monitor : (d : Decoded) (a : Automaton) → HeadOk d → MonitorOk d a → Bytes (encode_monitor d a)
unfolding encode_monitor
bytes_monitor d a h o =
    let n : ℕ = 4 + length a.accept + length a.accept * letters d a in
    let most : length a.accept * letters d a ≤ max_monitor_states * max_letters = mul-le-mul o.states_most (letters_most d h a) in
    bytes_append (n % 256 ∷ n / 256 ∷ 2 ∷ 0 ∷ a.role ∷ a.weight ∷ length a.accept ∷ a.start ∷ []) (a.accept ++ row_bytes a)
    (bytes_small (n % 256 ∷ n / 256 ∷ 2 ∷ 0 ∷ a.role ∷ a.weight ∷ length a.accept ∷ a.start ∷ []) (omega arith))
    (bytes_append a.accept (row_bytes a)
    (bytes_of a.accept (λ q l. omega (arith, o.accept q l)))
    (bytes-rows d a o))

-- every element of an encoded sheet is a byte
pub encode-bytes : (d : Decoded) → SheetOk d → Bytes (encode d)
unfolding encode
encode-bytes d o =
    bytes_append (encode_head d) (cat (length d.monitors) (block d)) (bytes-head d o.head o.horizon)
    (bytes-cat (length d.monitors) (block d) (λ j l. bytes_monitor d (monitor_of d j) o.head (o.monitor j l)))

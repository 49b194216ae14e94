-- What the tests of a table tell, as facts about its numbers.
-- Assumes nothing.
use Rattle.std.specs.Prelude.{◌≡◌, Bool, true, List, ℕ, ◌^◌, ◌≤◌, ◌<◌, length}
use Rattle.std.proofs.Common.{sym, ap₂, ◌∙◌, arith, ltb-true, leb-true, eqb-true}
use Rattle.records.specs.Laws.Tests.{and_left, and_right}
use Rattle.records.specs.Meaning.Bounded.{all}
use Rattle.records.specs.Laws.Bounded.{all-at}
use Rattle.records.specs.Meaning.Limits.{max_states, lines_ok, horizon_ok}
use Rattle.records.specs.Laws.Limits.{Lines, lines_facts}
use Rattle.guard_table.specs.Meaning.RowKind.{states_most}
use Rattle.guard_table.specs.Meaning.GuardTable.{head_length, length_in, head_mode, head_inputs, head_outputs, head_horizon, head_count, shown_length, shows_kind, kind_of, output_in, next_in}
use Rattle.guard_table.specs.Meaning.Loadable.{size_ok, fields_ok, table_head_ok, entry_ok, entries_ok, row_ok, rows_ok, loadable}
use Rattle.guard_table.specs.Model.Inside.{Sized, Closed}
use Rattle.guard_table.specs.Laws.RowKind.{states_most_lem}

-- a slice that shows its rows' kind is long enough to
pub shown_long : (t : List ℕ) → shows_kind t ≡ true → shown_length ≤ length t
unfolding shows_kind
shown_long t e = leb-true shown_length (length t) (search and_left)

pub record Head (t : List ℕ) : Type 0 where
  pub shows : shows_kind t ≡ true
  pub long : head_length ≤ length t
  pub lines : lines_ok (head_mode t) (head_inputs t) (head_outputs t) ≡ true
  pub horizon : horizon_ok (head_inputs t) (head_horizon t) ≡ true
  pub count-least : 1 ≤ head_count t
  pub count_named : head_count t ≤ states_most (kind_of t)
  pub count_most : head_count t ≤ max_states
  pub fills : length t ≡ length_in (kind_of t) (head_inputs t) (head_count t)

pub table_head_facts : (t : List ℕ) → table_head_ok t ≡ true → Head t
unfolding table_head_ok fields_ok size_ok
table_head_facts t e =
    let named : head_count t ≤ states_most (kind_of t) =
    leb-true (head_count t) (states_most (kind_of t)) (search (and_left, and_right) depth 9) in
    record {
      shows = search and_left;
      long = omega (arith, shown_long t (search and_left));
      lines = search (and_left, and_right);
      horizon = search (and_left, and_right) depth 9;
      count-least = leb-true 1 (head_count t) (search (and_left, and_right) depth 9);
      count_named = named;
      count_most = omega (arith, named, states_most_lem (kind_of t));
      fills = eqb-true (length t) (length_in (kind_of t) (head_inputs t) (head_count t)) (search (and_left, and_right) depth 9);
    }

pub head-lines : (t : List ℕ) → table_head_ok t ≡ true → Lines (head_mode t) (head_inputs t) (head_outputs t)
head-lines t e = lines_facts (head_mode t) (head_inputs t) (head_outputs t) (table_head_facts t e).lines

pub head_sized : (t : List ℕ) → table_head_ok t ≡ true → Sized t (head_inputs t) (head_count t)
head_sized t e =
    let h = table_head_facts t e in
    record { inputs_most = (head-lines t e).inputs_most; count_most = h.count_most; fills = h.fills }

pub loadable-head : (t : List ℕ) → loadable t ≡ true → Head t
unfolding loadable
loadable-head t e = table_head_facts t (search and_left)

pub loadable_sized : (t : List ℕ) → loadable t ≡ true → Sized t (head_inputs t) (head_count t)
unfolding loadable
loadable_sized t e = head_sized t (search and_left)

-- the test of an entry that was read
pub entry_tested : (t : List ℕ) (inputs place input outputs count : ℕ) {output next : ℕ} {f : Bool}
    → output ≡ output_in t inputs place input → next ≡ next_in t inputs place input → entry_ok output next outputs count ≡ f
    → entry_ok (output_in t inputs place input) (next_in t inputs place input) outputs count ≡ f
entry_tested t n p x o k e f g = sym (ap₂ (λ (x y : ℕ). entry_ok x y o k) e f) ∙ g

-- every entry of a loadable table is in range
pub loadable_entry : (t : List ℕ) → loadable t ≡ true → (place input : ℕ) → place < head_count t → input < 2 ^ head_inputs t
    → entry_ok (output_in t (head_inputs t) place input) (next_in t (head_inputs t) place input) (head_outputs t) (head_count t) ≡ true
unfolding loadable rows_ok row_ok entries_ok
loadable_entry t e p x h l =
    let n = head_inputs t in
    let o = head_outputs t in
    let k = head_count t in
    let rows : all k (row_ok t n o k) ≡ true = search (and_left, and_right) in
    let row : row_ok t n o k p ≡ true = all-at k (row_ok t n o k) rows p h in
    let entries : all (2 ^ n) (λ i. entry_ok (output_in t n p i) (next_in t n p i) o k) ≡ true = search (and_left, and_right) in
    all-at (2 ^ n) (λ i. entry_ok (output_in t n p i) (next_in t n p i) o k) entries x l

-- so its next states are its own
pub loadable-closed : (t : List ℕ) → loadable t ≡ true → Closed t (head_inputs t) (head_count t)
unfolding entry_ok
loadable-closed t e =
    record {
      sized = loadable_sized t e;
      next_low = λ k i h l. let ok = loadable_entry t e k i h l in ltb-true _ _ (search (and_left, and_right));
    }

-- The automaton that a layout places: its parts, and the bytes that they are.
-- Assumes nothing.
use Rattle.std.specs.Prelude.{◌≡◌, ℕ, ◌+◌, ◌*◌, ◌<◌, length}
use Rattle.std.proofs.Math.Path.{refl, sym}
use Rattle.std.proofs.Common.{◌∙◌, add_assoc}
use mathlib.Core.List.{List, []}
use Rattle.std.proofs.Math.ListN.{get_or}
use Rattle.records.specs.Meaning.Lists.{tab, cat}
use Rattle.records.specs.Laws.Lists.{length-tab, get_d_tab, tab_ext, cat_ext, part-cat}
use Rattle.records.specs.Model.Lists.{part}
use Rattle.sheet.specs.Meaning.Decoded.{no_automaton, monitor_of}
use Rattle.sheet.specs.Model.Where.{width, automaton, placed, decoded}
use Rattle.sheet.specs.declared.layout.Monitor.{Monitor}
use Rattle.sheet.specs.declared.layout.Sheet.{Sheet}

-- a decoded sheet has as many monitors as its layout
pub length_monitors : (s : List ℕ) (h : Sheet) → length (decoded s h).monitors ≡ h.count
unfolding decoded
length_monitors s h = length-tab h.count (λ j. automaton s h (placed h j))

-- monitor j is the automaton at its place
pub monitor_is : (s : List ℕ) (h : Sheet) (j : ℕ) → j < h.count → monitor_of (decoded s h) j ≡ automaton s h (placed h j)
unfolding decoded
monitor_is s h j l = get_d_tab h.count (λ j. automaton s h (placed h j)) j no_automaton l

module _ (s : List ℕ) (h : Sheet) (m : Monitor) where
  -- it has as many states as the layout says
  pub length_accept : length (automaton s h m).accept ≡ m.states
  unfolding automaton
  length_accept = length-tab m.states (λ q. get_or s (m.accept + q) 0)

  pub length-rows : length (automaton s h m).rows ≡ m.states
  unfolding automaton
  length-rows = length-tab m.states (λ q. tab (width h m) (λ l. get_or s (m.rows + (q * width h m + l)) 0))

  -- the accept byte of state q
  pub accept_at : (q : ℕ) → q < m.states → get_or (automaton s h m).accept q 0 ≡ get_or s (m.accept + q) 0
  unfolding automaton
  accept_at q l = get_d_tab m.states (λ q. get_or s (m.accept + q) 0) q 0 l

  row_at_lem : (q : ℕ) → q < m.states → get_or (automaton s h m).rows q [] ≡ tab (width h m) (λ l. get_or s (m.rows + (q * width h m + l)) 0)
  unfolding automaton
  row_at_lem q l = get_d_tab m.states (λ q. tab (width h m) (λ l. get_or s (m.rows + (q * width h m + l)) 0)) q [] l

  -- a row has a next state for each letter
  pub length-row : (q : ℕ) → q < m.states → length (get_or (automaton s h m).rows q []) ≡ width h m
  length-row q l = rw (row_at_lem q l) (length-tab (width h m) (λ l. get_or s (m.rows + (q * width h m + l)) 0))

  -- the next state of state q by letter l
  pub next_at_lem : (q l : ℕ) → q < m.states → l < width h m
      → get_or (get_or (automaton s h m).rows q []) l 0 ≡ get_or s (m.rows + (q * width h m + l)) 0
  next_at_lem q l u v = rw (row_at_lem q u) (get_d_tab (width h m) (λ l. get_or s (m.rows + (q * width h m + l)) 0) l 0 v)

  -- the accept bytes and the rows, as they lie
  pub accept_is : (automaton s h m).accept ≡ part s m.accept m.states
  unfolding automaton part
  accept_is = refl

  pub rows_are : cat (length (automaton s h m).rows) (λ q. get_or (automaton s h m).rows q []) ≡ part s m.rows (m.states * width h m)
  unfolding part
  rows_are =
      rw length-rows
      (cat_ext m.states (λ q. get_or (automaton s h m).rows q []) (λ q. part s (m.rows + q * width h m) (width h m))
      (λ q l. row_at_lem q l ∙ tab_ext (width h m) (λ l. get_or s (m.rows + (q * width h m + l)) 0)
      (λ l. get_or s (m.rows + q * width h m + l) 0) (λ l u. rw add_assoc))
      ∙ sym (part-cat s m.rows m.states (width h m)))

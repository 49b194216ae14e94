-- The search through a state's inputs and outputs: the cells of one input, and the search's ends.
-- Assumes nothing.
use mathlib.Core.Path.{◌≡◌, sym, ap, ◌∙◌}
use mathlib.Core.Bool.{true, false}
use mathlib.Core.List.{List}
use Prim.Native.Nat.{ℕ, ◌+◌, ◌*◌, ◌≤◌, ◌<◌}
use native.Mathlib.Nat.{mul-zero, mul-suc}
use native.Mathlib.Decide.{dec_lt}
use native.Mathlib.Numerals.{add-one}
use native.Mathlib.Omega.{arith}
use lib.Dec.{leb}
use borrow.Author.Count.{below_more}
use borrow.Author.Tests.{le-leb, lt-leb}
use Rattle.records.specs.Meaning.Bounded.{all}
use Rattle.records.specs.Laws.Bounded.{any_none, any_of, all_fails}
use Rattle.rounds.specs.Laws.CellPlaces.{cell_in_row}
use Rattle.rounds.specs.Model.TableRounds.{cell_at, leads_in, answered, stays}

-- the cell at which the search is at input i is an output's, or past the last one's, and those before it lead nowhere
pub record Searching (cells dropped : List ℕ) (ins outs k i at : ℕ) : Type 0 where
  pub output : ℕ
  pub low : output ≤ outs
  pub place : at ≡ cell_at ins outs k i output
  pub none : (p : ℕ) → p < output → leads_in cells dropped (cell_at ins outs k i p) ≡ false

module _ (cells dropped : List ℕ) (ins outs k : ℕ) where
  pub search_begin : (i : ℕ) → Searching cells dropped ins outs k i (k * (ins * outs) + i)
  unfolding cell_at
  search_begin i =
      record {
        output = 0;
        low = omega arith;
        place = omega (arith, mul-zero ins);
        none = λ p h. absurd (omega arith);
      }

  module _ {i at : ℕ} (inside : i < ins) (s : Searching cells dropped ins outs k i at) where
    -- before the row's end it is an output's
    search_output : at < k * (ins * outs) + ins * outs → s.output < outs
    unfolding cell_at
    search_output h =
        elim (dec_lt s.output outs) [
          | yes low ↦ low
          | no high ↦
              let last : s.output ≡ outs = omega (arith, s.low) in
              let beyond : at ≡ k * (ins * outs) + (i + ins * outs) = s.place ∙ ap (λ (o : ℕ). k * (ins * outs) + (i + ins * o)) last in
              absurd (omega arith)
        ]

    pub search_more : at < k * (ins * outs) + ins * outs → leads_in cells dropped at ≡ false
        → Searching cells dropped ins outs k i (at + ins)
    unfolding cell_at
    search_more h e =
        record {
          output = s.output + 1;
          low = omega (arith, search_output h);
          place = omega (arith, s.place, mul-suc ins s.output, ap (λ (o : ℕ). ins * o) (add-one s.output));
          none = below_more _ _ s.none (rw (← s.place) e);
        }

    -- a cell that leads is the answer of its output
    pub search_found : at < k * (ins * outs) + ins * outs → leads_in cells dropped at ≡ true
        → answered cells dropped ins outs k i ≡ true
    unfolding answered
    search_found h e = any_of outs _ s.output (search_output h) (rw (← s.place) e)

    -- past the row's end no output leads on, so input i fails
    pub one_failed : k * (ins * outs) + ins * outs ≤ at → leb ins i ≡ stays cells dropped ins outs k
    unfolding stays answered
    one_failed beyond =
        let all-out : outs ≤ s.output =
        elim (dec_lt s.output outs) [
          | yes low ↦ absurd (omega (arith, s.place, cell_in_row k inside low))
          | no high ↦ omega arith
        ] in
        lt-leb ins i inside ∙ sym (all_fails ins _ i inside (any_none outs _ (λ p u. s.none p (omega arith))))

  -- every input was passed
  pub all_passed : {i : ℕ} → i ≤ ins → ins ≤ i → all i (answered cells dropped ins outs k) ≡ true
      → leb ins i ≡ stays cells dropped ins outs k
  unfolding stays
  all_passed {i} l g h = let e : i ≡ ins = omega arith in le-leb ins i g ∙ sym (rw e at h)

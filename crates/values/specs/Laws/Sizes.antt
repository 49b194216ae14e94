-- Laws of what the code relies on.
-- Assumes nothing.
use Rattle.std.specs.Prelude.{◌≡◌, true, false, not, List, [], ℕ, ◌+◌, ◌*◌, ◌<◌, get_or}
use Rattle.std.proofs.Common.{mul_comm, arith}
use Rattle.std.proofs.lemmas.Bool.{not-true}
use Rattle.std.proofs.Math.Arith.{digits_lt}
use Rattle.records.specs.Laws.Tests.{and_left, and_right}
use Rattle.records.specs.Model.Cells.{is_broken}
use Rattle.rounds.specs.Model.TableRounds.{Steps, is_in, leads_in}
use Rattle.rounds.specs.Laws.CellPlaces.{CellEntered, cell_in}
use Rattle.values.specs.Model.Values.{Game, SizedGame, may_give, cell_next, score_of, earns}
use Rattle.values.specs.Model.Sizes.{Valued}
use Rattle.values.specs.Model.Arrivals.{score_in, Scored}

-- ---- a step of a sized table

-- a cell that leads to a kept state is unbroken
pub leads_unbroken : (cells dropped : List ℕ) (at : ℕ) → leads_in cells dropped at ≡ true → is_broken (get_or cells at 0) ≡ false
unfolding leads_in
leads_unbroken cells dropped at e =
    not-true _ (and_left (not (is_broken (get_or cells at 0))) (is_in dropped (get_or cells at 0)) e)

pub leads_kept : (cells dropped : List ℕ) (at : ℕ) → leads_in cells dropped at ≡ true → is_in dropped (get_or cells at 0) ≡ true
unfolding leads_in
leads_kept cells dropped at e = and_right (not (is_broken (get_or cells at 0))) (is_in dropped (get_or cells at 0)) e

pub steps_of : {g : Game} {n : ℕ} → SizedGame g n → Steps g.cells n g.ins g.outs
steps_of s = record { rows = s.rows; inside = s.inside }

pub cell_letter_low : {ins outs i o : ℕ} → i < ins → o < outs → i + ins * o < ins * outs
cell_letter_low {ins} {outs} {i} {o} hi ho = omega (arith, digits_lt ho hi, mul_comm ins o, mul_comm ins outs)

module _ {g : Game} {n : ℕ} (s : SizedGame g n) where
  pub entered : {k : ℕ} → k < n → CellEntered g.dropped n k
  entered h = record { room = s.dropped; state = h }

  -- an output that may be given leads to one of the n states
  pub next_low : {k i o : ℕ} → k < n → i < g.ins → o < g.outs → may_give g k i o ≡ true → cell_next g k i o < n
  unfolding may_give cell_next
  next_low hk hi ho may = s.inside _ (cell_in (steps_of s) hk hi ho) (leads_unbroken g.cells g.dropped _ may)

  -- which is kept
  pub next_kept : (k i o : ℕ) → may_give g k i o ≡ true → is_in g.dropped (cell_next g k i o) ≡ true
  unfolding may_give cell_next
  next_kept k i o may = leads_kept g.cells g.dropped _ may

  -- and the score of a step to one of them can be worked out
  pub scored_at : {arrivals : List ℕ} {factor to i o : ℕ} → Valued n arrivals factor → to < n → i < g.ins → o < g.outs
      → Scored g.bonuses arrivals factor to (i + g.ins * o)
  scored_at {i = i} {o = o} v h hi ho =
      let letter : i + g.ins * o < g.ins * g.outs = cell_letter_low hi ho in
      record {
        bonuses_room = omega (arith, s.bonuses);
        bonus = s.bonus _ letter;
        arrivals_room = omega (arith, v.room);
        most = v.most _ h;
        factor_most = v.factor_most;
      }

-- a step's score, read from the state after it and its letter
pub score_read : (g : Game) → g.gains ≡ [] → (arrivals : List ℕ) (factor k i o : ℕ)
    → score_in g.bonuses arrivals factor (cell_next g k i o) (i + g.ins * o) ≡ score_of g arrivals factor k i o
unfolding score_in score_of earns
score_read g none arrivals factor k i o = rw none (omega arith)

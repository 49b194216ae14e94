-- What an output offers: what working it out asks, and that it is found.
-- Assumes nothing.
use mathlib.Core.Path.{◌≡◌, ◌∙◌}
use mathlib.Core.Bool.{Bool, true, false}
use mathlib.Core.List.{List, []}
use Prim.Native.Nat.{ℕ, ◌+◌, ◌*◌, ◌≤◌, ◌<◌}
use native.Mathlib.Omega.{arith}
use lib.ListN.{length, get_or}
use Rattle.std.specs.Prelude.{Some, None}
use Rattle.rounds.specs.Model.TableRounds.{cell_at, leads_in}
use Rattle.rounds.specs.Laws.CellPlaces.{max_index, InRow, CellLeads, in_row, leads_at}
use Rattle.values.specs.Model.Values.{Game, may_give, cell_next, score_of}
use Rattle.values.specs.Model.Sizes.{Ready}
use Rattle.values.specs.Model.Arrivals.{score_in, Scored, offer_of}
use Rattle.values.specs.Laws.Sizes.{steps_of, entered, cell_letter_low, next_low, scored_at, score_read}

-- what reading the cell of output o, and the bonus of its letter, asks
pub record Asked (g : Game) (k i o : ℕ) : Type 0 where
  pub row : InRow g.ins g.outs k i o
  pub leads : (a : ℕ) → a ≡ cell_at g.ins g.outs k i o → CellLeads g.cells g.dropped a
  pub letter : i + g.ins * o < length g.bonuses

module _ {g : Game} {arrivals : List ℕ} {factor k : ℕ} (ready : Ready g arrivals factor k) (i : ℕ) (hi : i < g.ins) where
  -- the cell of output o
  abbrev at : ℕ → ℕ
  at o = cell_at g.ins g.outs k i o

  pub asked : {o : ℕ} → length g.cells ≤ max_index → o < g.outs → Asked g k i o
  asked size ho =
      let s = ready.sized in
      record {
        row = in_row (steps_of s) size ready.state hi ho;
        leads = λ a e. leads_at (steps_of s) (entered s ready.state) hi ho e;
        letter = omega (arith, cell_letter_low hi ho, s.bonuses);
      }

  -- an output that may be given leads to one of the states
  pub leads_inside : {o a : ℕ} → o < g.outs → a ≡ at o → leads_in g.cells g.dropped a ≡ true
      → get_or g.cells a 0 < ready.states
  unfolding may_give cell_next
  leads_inside ho q may = rw q (next_low ready.sized ready.state hi ho (rw q at may))

  -- so that its score can be worked out
  pub scorable : {o to : ℕ} → o < g.outs → to < ready.states → Scored g.bonuses arrivals factor to (i + g.ins * o)
  scorable ho h = scored_at ready.sized ready.valued h hi ho

-- the offer of output o; `a` is the place of its cell
module _ (g : Game) (arrivals : List ℕ) (factor k i o : ℕ) {a : ℕ} (q : a ≡ cell_at g.ins g.outs k i o) where
  may_at : {b : Bool} → leads_in g.cells g.dropped a ≡ b → may_give g k i o ≡ b
  unfolding may_give
  may_at may = rw q at may

  score-found : {to score : ℕ} → g.gains ≡ [] → to ≡ get_or g.cells a 0
      → score ≡ score_in g.bonuses arrivals factor to (i + g.ins * o) → score ≡ score_of g arrivals factor k i o
  unfolding cell_next
  score-found none e f = f ∙ rw (e, q) (score_read g none arrivals factor k i o)

  pub offer_none : leads_in g.cells g.dropped a ≡ false → None ≡ offer_of g arrivals factor k i o
  unfolding offer_of
  offer_none may = rw (may_at may)

  pub offer_made : {to score : ℕ} → g.gains ≡ [] → leads_in g.cells g.dropped a ≡ true
      → to ≡ get_or g.cells a 0 → score ≡ score_in g.bonuses arrivals factor to (i + g.ins * o)
      → Some score ≡ offer_of g arrivals factor k i o
  unfolding offer_of
  offer_made none may e f = rw (may_at may, score-found none e f)

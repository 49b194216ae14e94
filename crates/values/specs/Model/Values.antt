-- Value iteration over a table of steps (document 01's Best), the scores and the choice.
-- `gains` holds for each state what the soft monitors that accept in it earn, `bonuses` for each letter what the equal
-- lines earn, so that a step earns the gain of the state after it and the bonus of its letter.
-- Assumes nothing.
use Rattle.std.specs.Prelude.{◌≡◌, Bool, false, cond, List, ℕ, zero, suc, ◌+◌, ◌*◌, ◌/◌, ◌%◌, ◌^◌, ◌≤◌, ◌<◌, length, get_or}
use Rattle.records.specs.Meaning.Limits.{max_states, max_ins, max_outs}
use Rattle.records.specs.Meaning.Bounded.{sum}
use Rattle.records.specs.Meaning.Lists.{tab}
use Rattle.records.specs.Model.Bounded.{top}
use Rattle.records.specs.Model.Lists.{put}
use Rattle.records.specs.Model.Cells.{is_broken}
use Rattle.game.specs.Model.Choice.{choose}
use Rattle.rounds.specs.Model.TableRounds.{cell_at, is_in, leads_in}
use Rattle.values.specs.Model.Rank.{rank}

-- the table that values are worked out over
pub record Game : Type 0 where
  pub cells : List ℕ
  pub dropped : List ℕ
  pub gains : List ℕ
  pub bonuses : List ℕ
  pub ins : ℕ
  pub outs : ℕ

-- output o may be given at input i in state k: its step is unbroken and ends in a kept state
unfoldable pub may_give : Game → ℕ → ℕ → ℕ → Bool
may_give g k i o = leads_in g.cells g.dropped (cell_at g.ins g.outs k i o)

-- the state after a step
unfoldable pub cell_next : Game → ℕ → ℕ → ℕ → ℕ
cell_next g k i o = get_or g.cells (cell_at g.ins g.outs k i o) 0

-- what a step earns
unfoldable pub earns : Game → ℕ → ℕ → ℕ → ℕ
earns g k i o = get_or g.gains (cell_next g k i o) 0 + get_or g.bonuses (i + g.ins * o) 0

-- the score of an output where `values` is what the states are worth afterwards and each reward counts `factor` times
unfoldable pub score_of : Game → List ℕ → ℕ → ℕ → ℕ → ℕ → ℕ
score_of g values factor k i o = earns g k i o * factor + get_or values (cell_next g k i o) 0

-- what a kept state is worth one step earlier
unfoldable pub worth : Game → List ℕ → ℕ → ℕ → ℕ
worth g values factor k =
    cond (is_in g.dropped k) (sum g.ins (λ i. top g.outs (may_give g k i) (score_of g values factor k i))) 0

-- the row of n states for p steps: Best(s, p) of each kept state s
unfoldable pub value_row : Game → ℕ → List ℕ → ℕ → List ℕ
value_row g n memory zero = put memory n (λ k. 0)
value_row g n memory (suc p) = put memory n (worth g (value_row g n memory p) (g.ins ^ p))

-- the choice of state k at input i over a horizon: the largest score, ties by rank
unfoldable pub choice_of : Game → List ℕ → List ℕ → ℕ → ℕ → ℕ → ℕ
choice_of g literals values factor k i = choose g.outs (may_give g k i) (score_of g values factor k i) (rank literals)

-- the choices of n states, one for each state and input
unfoldable pub choices : Game → ℕ → List ℕ → List ℕ → ℕ → List ℕ
choices g n literals values factor =
    tab (n * g.ins) (λ at. choice_of g literals values factor (at / g.ins) (at % g.ins))

-- the sizes and bounds that the code relies on
pub record SizedGame (g : Game) (n : ℕ) : Type 0 where
  pub inputs_least : 1 ≤ g.ins
  pub inputs_most : g.ins ≤ max_ins
  pub outputs_least : 1 ≤ g.outs
  pub outputs_most : g.outs ≤ max_outs
  pub states : n ≤ max_states
  pub rows : n * (g.ins * g.outs) ≤ length g.cells
  pub inside : (at : ℕ) → at < n * (g.ins * g.outs) → is_broken (get_or g.cells at 0) ≡ false → get_or g.cells at 0 < n
  pub dropped : n ≤ length g.dropped
  pub gain : (k : ℕ) → k < n → get_or g.gains k 0 ≤ 1530
  pub bonuses : g.ins * g.outs ≤ length g.bonuses
  pub bonus : (l : ℕ) → l < g.ins * g.outs → get_or g.bonuses l 0 ≤ 765

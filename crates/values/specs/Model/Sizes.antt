-- What the code relies on: the table from its slices, a step's place in it, and values and factors that fit 64 bits.
-- Assumes nothing.
use Rattle.std.specs.Prelude.{List, ℕ, ◌^◌, ◌≤◌, ◌<◌, length, get_or}
use Rattle.records.specs.Meaning.Limits.{max_horizon}
use Rattle.records.specs.Model.Bounded.{top}
use Rattle.values.specs.Model.Values.{Game, SizedGame, may_give, score_of}

-- the table, from its slices and the numbers of inputs and outputs
abbrev pub game_of : List ℕ → List ℕ → List ℕ → List ℕ → ℕ → ℕ → Game
game_of cells dropped gains bonuses ins outs =
    record {
      cells = cells;
      dropped = dropped;
      gains = gains;
      bonuses = bonuses;
      ins = ins;
      outs = outs;
    }

-- values and a factor that stay far below 2 ^ 64: at most 24 steps of at most 2295 for each of 2 ^ 24 words
pub record Valued (n : ℕ) (values : List ℕ) (factor : ℕ) : Type 0 where
  pub room : n ≤ length values
  pub most : (k : ℕ) → k < n → get_or values k 0 ≤ 2 ^ 40
  pub factor_most : factor ≤ 2 ^ max_horizon

-- state k of a table of any number of states, with such values for them
pub record Ready (g : Game) (values : List ℕ) (factor k : ℕ) : Type 0 where
  pub states : ℕ
  pub sized : SizedGame g states
  pub valued : Valued states values factor
  pub state : k < states

-- the largest score of state k at input i
abbrev pub best_of : Game → List ℕ → ℕ → ℕ → ℕ → ℕ
best_of g values factor k i = top g.outs (may_give g k i) (score_of g values factor k i)

-- Values prepared for a round: what arriving in a state earns along every word to come, and is worth, as one number a state.
-- They are the values of a table whose states gain nothing; ranks of outputs are prepared too.
-- Assumes nothing.
use Rattle.std.specs.Prelude.{◌≡◌, cond, Option, Some, None, List, [], ℕ, ◌+◌, ◌*◌, ◌/◌, ◌%◌, ◌^◌, ◌≤◌, ◌<◌, length, get_or}
use Rattle.records.specs.Meaning.Limits.{max_horizon}
use Rattle.records.specs.Meaning.Lists.{tab}
use Rattle.game.specs.Model.Choice.{choose}
use Rattle.values.specs.Model.Values.{Game, may_give, score_of}
use Rattle.values.specs.Model.Sizes.{game_of}

-- the number of state k
unfoldable pub arrival : List ℕ → List ℕ → ℕ → ℕ → ℕ
arrival gains values factor k = get_or gains k 0 * factor + get_or values k 0

-- the numbers of n states
pub record Prepared (n : ℕ) (gains values : List ℕ) (factor : ℕ) (arrivals : List ℕ) : Type 0 where
  pub room : n ≤ length arrivals
  pub at : (k : ℕ) → k < n → get_or arrivals k 0 ≡ arrival gains values factor k

-- the table that such numbers are the values of
abbrev pub arrival_game : List ℕ → List ℕ → List ℕ → ℕ → ℕ → Game
arrival_game cells dropped bonuses ins outs = game_of cells dropped [] bonuses ins outs

-- gains that can be read for n states and are at most six monitors' weights
pub record Gained (n : ℕ) (gains : List ℕ) : Type 0 where
  pub room : n ≤ length gains
  pub most : (k : ℕ) → k < n → get_or gains k 0 ≤ 1530

-- the score of a step to the state `to` by a letter
unfoldable pub score_in : List ℕ → List ℕ → ℕ → ℕ → ℕ → ℕ
score_in bonuses arrivals factor to letter = get_or arrivals to 0 + get_or bonuses letter 0 * factor

-- and that it can be read and fits
pub record Scored (bonuses arrivals : List ℕ) (factor to letter : ℕ) : Type 0 where
  pub bonuses_room : letter < length bonuses
  pub bonus : get_or bonuses letter 0 ≤ 765
  pub arrivals_room : to < length arrivals
  pub most : get_or arrivals to 0 ≤ 2 ^ 40
  pub factor_most : factor ≤ 2 ^ max_horizon

-- what output o offers in state k at input i: its score, none if it is not allowed
unfoldable pub offer_of : Game → List ℕ → ℕ → ℕ → ℕ → ℕ → Option ℕ
offer_of g arrivals factor k i o = cond (may_give g k i o) (Some (score_of g arrivals factor k i o)) None

-- the choice of state k at input i by prepared ranks
unfoldable pub ranked_choice : Game → List ℕ → List ℕ → ℕ → ℕ → ℕ → ℕ
ranked_choice g ranks arrivals factor k i =
    choose g.outs (may_give g k i) (score_of g arrivals factor k i) (λ o. get_or ranks o 0)

-- the choices of n states, one for each state and input
unfoldable pub ranked_choices : Game → ℕ → List ℕ → List ℕ → ℕ → List ℕ
ranked_choices g n ranks arrivals factor =
    tab (n * g.ins) (λ at. ranked_choice g ranks arrivals factor (at / g.ins) (at % g.ins))

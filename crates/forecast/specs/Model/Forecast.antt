-- The model of a sheet's forecast card.
-- Assumes nothing.
use Rattle.std.specs.Prelude.{List, ℕ, ◌^◌, ◌≤◌, length}
use Rattle.records.specs.Meaning.Limits.{max_states, max_letters}
use Rattle.records.specs.Meaning.Lists.{tab}
use Rattle.game.specs.Model.Extreme.{Pick, bottom, value_by}
use Rattle.sheet.specs.Meaning.Decoded.{Decoded}
use Rattle.product.specs.Meaning.Step.{inputs_of, outputs_of, advance, reward}
use Rattle.product.specs.Model.ProductNumbering.{state_count, state_of, tuples_length, cells_length}
use Rattle.states.specs.Model.Index.{links_length}
use Rattle.solve.specs.Model.Steps.{dropped_of}
use Rattle.plan.specs.Model.Playing.{may_at, best_at}
use Rattle.card.specs.Model.Card.{card_of}
use Rattle.card.specs.declared.Card.{Card}

-- by the largest or by the smallest score
abbrev pub sum_at : Pick → Decoded → ℕ → List ℕ → ℕ
sum_at pick d = value_by pick (List ℕ) (inputs_of d) (outputs_of d) (advance d) (may_at d) (reward d)

-- document 01's Best of a tuple is `best_at`; the same with the smallest
abbrev pub least_at : Decoded → ℕ → List ℕ → ℕ
least_at = sum_at bottom

-- for each product state
unfoldable pub bests_of : Decoded → List ℕ
bests_of d = tab (state_count d) (λ k. best_at d d.horizon (state_of d k))

unfoldable pub leasts_of : Decoded → List ℕ
leasts_of d = tab (state_count d) (λ k. least_at d d.horizon (state_of d k))

unfoldable pub forecast_card : Decoded → Card
forecast_card d = card_of (dropped_of d) (bests_of d) (leasts_of d) (inputs_of d ^ d.horizon) (state_count d)

-- work memory that is long enough for every sheet
pub record ForecastRoom (tuples cells dropped gains bonuses bests leasts highs lows : List ℕ) : Type 0 where
  pub tuples_long : tuples_length ≤ length tuples
  pub cells_long : cells_length ≤ length cells
  pub dropped_long : links_length ≤ length dropped
  pub gains_long : max_states ≤ length gains
  pub bonuses_long : max_letters ≤ length bonuses
  pub bests_long : max_states ≤ length bests
  pub leasts_long : max_states ≤ length leasts
  pub highs_long : max_states ≤ length highs
  pub lows_long : max_states ≤ length lows

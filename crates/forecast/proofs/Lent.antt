-- Work memory that is long enough for every sheet.
-- Assumes nothing.
use mathlib.Core.Path.{◌≡◌}
use mathlib.Core.Bool.{true}
use mathlib.Core.List.{List, [], ◌∷◌}
use Prim.Native.Nat.{ℕ}
use lib.ListN.{length}
use Rattle.records.specs.Meaning.Work.{long_enough}
use Rattle.records.specs.Laws.Work.{Long, long_enough_lem}
use Rattle.forecast.specs.Model.Forecast.{ForecastRoom}
use Rattle.forecast.specs.Promises.Forecast.{forecast_work}

-- the slices' lengths in turn
abbrev pub lengths : (tuples cells dropped gains bonuses bests leasts highs lows : List ℕ) → List ℕ
lengths tuples cells dropped gains bonuses bests leasts highs lows =
    length tuples
    ∷ length cells
    ∷ length dropped
    ∷ length gains
    ∷ length bonuses
    ∷ length bests
    ∷ length leasts
    ∷ length highs
    ∷ length lows
    ∷ []

pub work_room : (tuples cells dropped gains bonuses bests leasts highs lows : List ℕ)
    → long_enough forecast_work (lengths tuples cells dropped gains bonuses bests leasts highs lows) ≡ true
    → ForecastRoom tuples cells dropped gains bonuses bests leasts highs lows
unfolding Long
work_room tuples cells dropped gains bonuses bests leasts highs lows e =
    let opening = long_enough_lem forecast_work (lengths tuples cells dropped gains bonuses bests leasts highs lows) e in
    let earned = opening.1.1.1 in
    let summed = earned.1.1 in
    let arrived = summed.1.1 in
    record {
      tuples_long = opening.0;
      cells_long = opening.1.0;
      dropped_long = opening.1.1.0;
      gains_long = earned.0;
      bonuses_long = earned.1.0;
      bests_long = summed.0;
      leasts_long = summed.1.0;
      highs_long = arrived.0;
      lows_long = arrived.1.0;
    }

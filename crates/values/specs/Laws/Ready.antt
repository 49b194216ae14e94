-- A game in a round is ready in each of its states.
-- Assumes nothing.
use Rattle.std.specs.Prelude.{ℕ, ◌<◌}
use Rattle.values.specs.Model.Sizes.{Ready}
use Rattle.values.specs.Model.Tables.{game_in}
use Rattle.values.specs.declared.values.ReadyGame.{ReadyGame}

pub ready_in : (r : ReadyGame) {k : ℕ} → k < r.n → Ready (game_in r.round.game) r.round.arrivals.now r.round.factor k
ready_in r h = record { states = r.n; sized = r.sized; valued = r.valued; state = h }

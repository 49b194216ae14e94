-- `values::values::ReadyGame::value_round`: the entries of the states before k. Assumes nothing.
use Rattle.std.proofs.Common.{◌≡◌}
use Rattle.records.specs.Model.Lists.{put}
use Rattle.values.specs.Model.Values.{worth}
use Rattle.values.specs.Model.Tables.{game_in}
use Rattle.values.proofs.values.ReadyGame.value_round.Given as goal

abbrev pub invariant-loop-k : goal.invariant-loop-k
invariant-loop-k l = l.values ≡ put l.initial.values l.k (worth (game_in l.self.round.game) l.self.round.arrivals.now l.self.round.factor)

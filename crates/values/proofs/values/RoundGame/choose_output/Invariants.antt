-- `values::values::RoundGame::choose_output`: the leader of the outputs before o. Assumes nothing.
use Rattle.std.proofs.Common.{◌≡◌}
use Rattle.values.specs.Model.Tables.{game_in}
use Rattle.values.proofs.Leading.{leading}
use Rattle.values.proofs.values.RoundGame.choose_output.Given as goal

abbrev pub invariant-loop-o : goal.invariant-loop-o
invariant-loop-o l = l.leader ≡ leading (game_in l.self.game) l.ranks l.self.arrivals.now l.self.factor l.k l.i l.o

-- `values::values::RoundGame::best_score`: the best score of the outputs before o. Assumes nothing.
use Rattle.std.proofs.Common.{◌≡◌}
use Rattle.values.specs.Model.Tables.{game_in}
use Rattle.values.proofs.Best.{best_before}
use Rattle.values.proofs.values.RoundGame.best_score.Given as goal

abbrev pub invariant-loop-o : goal.invariant-loop-o
invariant-loop-o l = l.best ≡ best_before (game_in l.self.game) l.self.arrivals.now l.self.factor l.k l.i l.o

-- `values::values::RoundGame::worth_of`: the sum of the best scores of the inputs before i. Assumes nothing.
use Rattle.std.proofs.Common.{◌≡◌}
use Rattle.values.specs.Model.Tables.{game_in}
use Rattle.values.proofs.Best.{summed}
use Rattle.values.proofs.values.RoundGame.worth_of.Given as goal

abbrev pub invariant-loop-i : goal.invariant-loop-i
invariant-loop-i l = l.sum ≡ summed (game_in l.self.game) l.self.arrivals.now l.self.factor l.k l.i

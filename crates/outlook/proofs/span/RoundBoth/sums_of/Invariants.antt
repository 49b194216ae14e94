-- `outlook::span::RoundBoth::sums_of`: the sums over the inputs before i. Assumes nothing.
use Rattle.values.specs.Model.Tables.{game_in}
use Rattle.outlook.proofs.Summing.{Summed}
use Rattle.outlook.proofs.span.RoundBoth.sums_of.Given as goal

abbrev pub invariant-loop-i : goal.invariant-loop-i
invariant-loop-i l = Summed (game_in l.self.game) l.self.highs.now l.self.lows.now l.self.factor l.k l.best l.least l.i

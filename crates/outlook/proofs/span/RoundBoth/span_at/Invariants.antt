-- `outlook::span::RoundBoth::span_at`: the span of the outputs before o. Assumes nothing.
use Rattle.std.proofs.Common.{◌≡◌}
use Rattle.values.specs.Model.Tables.{game_in}
use Rattle.outlook.specs.Laws.Spans.{before}
use Rattle.outlook.proofs.span.RoundBoth.span_at.Given as goal

abbrev pub invariant-loop-o : goal.invariant-loop-o
invariant-loop-o l = l.span ≡ before (game_in l.self.game) l.self.highs.now l.self.lows.now l.self.factor l.k l.i l.o

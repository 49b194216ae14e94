-- `outlook::span::ReadyBoth::sums_round`: the entries of the states before k in both rows. Assumes nothing.
use Rattle.std.proofs.Common.{◌≡◌}
use Rattle.records.specs.Model.Bounded.{top}
use Rattle.records.specs.Model.Lists.{put}
use Rattle.game.specs.Model.Extreme.{bottom}
use Rattle.values.specs.Model.Tables.{game_in}
use Rattle.outlook.specs.Model.Outlook.{worth_by}
use Rattle.outlook.proofs.span.ReadyBoth.sums_round.Given as goal

abbrev pub invariant-loop-k : goal.invariant-loop-k
invariant-loop-k l =
    let r = l.self.rounds in
    (l.bests ≡ put l.initial.bests l.k (worth_by top (game_in r.game) r.highs.now r.factor))
    × (l.leasts ≡ put l.initial.leasts l.k (worth_by bottom (game_in r.game) r.lows.now r.factor))

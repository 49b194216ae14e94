-- `rounds::StepTable::round_drops`: the two tests, in the definition's order. Assumes nothing.
use Rattle.std.proofs.Common.{ap, not, ◌∙◌}
use Rattle.records.specs.Laws.Tests.{said}
use Rattle.rounds.specs.Model.InPlace.{drops}
use Rattle.rounds.proofs.StepTable.round_drops.Goals as goal

pub returns-then-is_kept : goal.returns-then-is_kept
unfolding drops
returns-then-is_kept c = rw (said c.is_kept.ensures c.if-is_kept.true) (ap not c.state_stays.ensures)

pub returns-else-is_kept : goal.returns-else-is_kept
unfolding drops
returns-else-is_kept c = c.if-is_kept.false ∙ rw (said c.is_kept.ensures c.if-is_kept.false)

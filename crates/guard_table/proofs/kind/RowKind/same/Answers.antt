-- `guard_table::kind::RowKind::same`: an arm for each two kinds. Assumes nothing.
use Rattle.guard_table.proofs.kind.RowKind.same.Goals as goal

pub returns-in-Narrow-other : goal.returns-in-Narrow-other
returns-in-Narrow-other c = rw (c.in-Narrow.is, c.in-Narrow-other.is)

pub returns-in-Wide-other : goal.returns-in-Wide-other
returns-in-Wide-other c = rw (c.in-Narrow.is, c.in-Wide-other.is)

pub returns-in-Narrow-other-2 : goal.returns-in-Narrow-other-2
returns-in-Narrow-other-2 c = rw (c.in-Wide.is, c.in-Narrow-other-2.is)

pub returns-in-Wide-other-2 : goal.returns-in-Wide-other-2
returns-in-Wide-other-2 c = rw (c.in-Wide.is, c.in-Wide-other-2.is)

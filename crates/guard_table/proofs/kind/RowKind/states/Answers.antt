-- `guard_table::kind::RowKind::states`: by the kind. Assumes nothing.
use Rattle.std.proofs.Common.{ap, sym}
use Rattle.guard_table.specs.Meaning.RowKind.{states_most}
use Rattle.guard_table.proofs.kind.RowKind.states.Goals as goal

pub returns-in-Narrow : goal.returns-in-Narrow
returns-in-Narrow c = sym (ap states_most c.in-Narrow.is)

pub returns-in-Wide : goal.returns-in-Wide
returns-in-Wide c = sym (ap states_most c.in-Wide.is)

-- `guard_table::kind::kind_of`: the kind that is shown, or that of narrow rows. Assumes nothing.
use Rattle.std.proofs.Common.{◌∙◌}
use Rattle.guard_table.proofs.Parts.{kind_or-narrow}
use Rattle.guard_table.proofs.kind.kind_of.Goals as goal

pub returns : goal.returns
returns c = c.unwrap_or.ensures ∙ kind_or-narrow _ c.requires c.shown_kind.result c.shown_kind.ensures

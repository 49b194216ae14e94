-- `guard_table::layout::guard_length`: by the kind for the count. Assumes nothing.
use Rattle.std.proofs.Common.{ap, ◌∙◌}
use Rattle.guard_table.specs.Meaning.GuardTable.{length_in}
use Rattle.guard_table.specs.declared.kind.RowKind.{RowKind}
use Rattle.guard_table.proofs.layout.guard_length.Goals as goal

pub returns : goal.returns
returns c =
    let s = c.args in
    c.table_length.ensures ∙ ap (λ (k : RowKind). length_in k s.inputs s.count) c.of.ensures

-- `guard_table::layout::Layout::table_length`: where one row more would begin. Assumes nothing.
use Rattle.guard_table.specs.Meaning.GuardTable.{length_in, row_at}
use Rattle.guard_table.proofs.layout.Layout.table_length.Goals as goal

pub returns : goal.returns
unfolding length_in row_at
returns c = c.row_at.ensures.0

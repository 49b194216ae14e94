-- `guard_table::layout::Layout::row_length`: a sum. Assumes nothing.
use Rattle.std.proofs.Common.{arith}
use Rattle.guard_table.specs.Meaning.GuardTable.{row_length}
use Rattle.guard_table.proofs.layout.Layout.row_length.Goals as goal

pub returns : goal.returns
unfolding row_length
returns c = omega (arith, c.row_size.ensures.0)

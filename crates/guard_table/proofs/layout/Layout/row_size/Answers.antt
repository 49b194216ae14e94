-- `guard_table::layout::Layout::row_size`: at most 16 entries of three bytes. Assumes nothing.
use Rattle.std.proofs.Common.{ap₂, arith, ◌*◌, ◌≡◌, ◌≤◌}
use Rattle.guard_table.specs.Meaning.GuardTable.{row_size}
use Rattle.guard_table.specs.Model.Inside.{row_most}
use Rattle.guard_table.specs.Laws.GuardTable.{row_most_lem}
use Rattle.guard_table.proofs.layout.Layout.row_size.Goals.{After-pow2}
use Rattle.guard_table.proofs.layout.Layout.row_size.Goals as goal

size : (c : After-pow2) → let s = c.args.self in c.width.result * c.pow2.result ≡ row_size s.kind s.inputs
size c = ap₂ ◌*◌ c.width.ensures c.pow2.ensures

most : (c : After-pow2) → c.width.result * c.pow2.result ≤ row_most
most c = let s = c.args.self in omega (arith, size c, row_most_lem s.kind s.inputs s.inputs_most)

pub overflow_mul-result : goal.overflow_mul-result
overflow_mul-result c = omega (arith, most c)

pub returns : goal.returns
returns c = (size c, most c)

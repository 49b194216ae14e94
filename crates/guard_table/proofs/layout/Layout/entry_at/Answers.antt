-- `guard_table::layout::Layout::entry_at`: a sum. Assumes nothing.
use Rattle.std.proofs.Common.{arith, ◌*◌, ◌≤◌}
use native.Mathlib.Nat.{mul-le-mul}
use Rattle.records.specs.Meaning.Limits.{max_ins}
use Rattle.guard_table.specs.Meaning.RowKind.{entry_width}
use Rattle.guard_table.specs.Meaning.GuardTable.{entry_at}
use Rattle.guard_table.specs.declared.kind.RowKind.TheVariants.{Wide}
use Rattle.guard_table.specs.Model.Inside.{row_most}
use Rattle.guard_table.specs.Laws.RowKind.{width_most}
use Rattle.guard_table.proofs.layout.Layout.entry_at.Goals.{After-width}
use Rattle.guard_table.proofs.layout.Layout.entry_at.Goals as goal

-- the entries before it lie in one row
before : (c : After-width) → c.width.result * c.args.input ≤ row_most
before c = let s = c in
    mul-le-mul {n₂ = entry_width Wide} {m₂ = max_ins} (omega (arith, c.width.ensures, width_most s.args.self.kind)) s.requires.1

pub overflow_mul-result : goal.overflow_mul-result
overflow_mul-result c = omega (arith, before c)

pub overflow_add-result : goal.overflow_add-result
overflow_add-result c = omega (arith, before c)

pub overflow_add-result-2 : goal.overflow_add-result-2
overflow_add-result-2 c = omega (arith, before c, c.row_at.ensures.1)

pub returns : goal.returns
unfolding entry_at
returns c = simp (c.row_at.ensures.0, c.width.ensures)

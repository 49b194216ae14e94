-- `guard_table::layout::Layout::row_at`: as many rows before it as there are states, each as long as the longest at most.
-- Assumes nothing.
use Rattle.std.proofs.Common.{arith, ◌*◌, ◌+◌, ◌≤◌}
use native.Mathlib.Nat.{mul-le-mul}
use Rattle.records.specs.Meaning.Limits.{max_states}
use Rattle.guard_table.specs.Meaning.GuardTable.{row_at}
use Rattle.guard_table.specs.Model.Inside.{row_most}
use Rattle.guard_table.proofs.layout.Layout.row_at.Goals.{After-row_length}
use Rattle.guard_table.proofs.layout.Layout.row_at.Goals as goal

rows : (c : After-row_length) → c.args.place * c.row_length.result ≤ max_states * (4 + row_most)
rows c = mul-le-mul {n₂ = max_states} {m₂ = 4 + row_most} (omega arith) (omega arith)

pub overflow_mul-result : goal.overflow_mul-result
overflow_mul-result c = omega (arith, rows c)

pub overflow_add-result : goal.overflow_add-result
overflow_add-result c = omega (arith, rows c)

pub returns : goal.returns
unfolding row_at
returns c = (simp c.row_length.ensures.0, omega (arith, rows c))

-- `guard_table::part::part_at`: an arm for each kind. Assumes nothing.
use Rattle.std.proofs.Common.{arith, ◌≡◌}
use Rattle.records.specs.Laws.Tests.{cases}
use Rattle.guard_table.specs.Meaning.RowKind.{kind_number}
use Rattle.guard_table.specs.Meaning.GuardTable.{head_kind}
use Rattle.guard_table.specs.Model.Parts.{part_of}
use Rattle.guard_table.specs.declared.kind.RowKind.TheVariants.{Narrow, Wide}
use Rattle.guard_table.proofs.part.part_at.Goals.{In-16, In-17, In-20}
use Rattle.guard_table.proofs.part.part_at.Goals as goal

-- the kind that was read in each arm
head : (c : In-16) → c.u16_at.result ≡ head_kind
head c = omega arith

narrow : (c : In-17) → c.u16_at.result ≡ kind_number Narrow
narrow c = omega arith

wide : (c : In-20) → c.u16_at.result ≡ kind_number Wide
wide c = omega arith

pub returns-in-16 : goal.returns-in-16
unfolding part_of
returns-in-16 c = simp (← c.u16_at.ensures, head c)

pub returns-in-17 : goal.returns-in-17
unfolding part_of
returns-in-17 c = simp (← c.u16_at.ensures, narrow c)

pub returns-in-20 : goal.returns-in-20
unfolding part_of
returns-in-20 c = simp (← c.u16_at.ensures, wide c)

pub returns-in-0-to-15 : goal.returns-in-0-to-15
unfolding part_of
returns-in-0-to-15 c = search (cases, ← c.u16_at.ensures)

-- `guard_table::entry::next_at`: one byte, or two. Assumes nothing.
use Rattle.std.proofs.Common.{ap, arith, ◌≡◌}
use Rattle.guard_table.specs.Meaning.RowKind.{entry_width}
use Rattle.guard_table.specs.declared.kind.RowKind.TheVariants.{Narrow, Wide}
use Rattle.guard_table.proofs.entry.next_at.Goals.{In-Narrow, In-Wide}
use Rattle.guard_table.proofs.entry.next_at.Goals as goal

narrow : (c : In-Narrow) → c.args.kind ≡ Narrow
narrow c = c.in-Narrow.is

wide : (c : In-Wide) → c.args.kind ≡ Wide
wide c = c.in-Wide.is

pub bounds-table-at : goal.bounds-table-at
bounds-table-at c = omega (arith, c.requires, ap entry_width (narrow (goal.at.bounds-table-at c).In-Narrow))

pub overflow_cast-result : goal.overflow_cast-result
overflow_cast-result c = omega (arith, c.type_inv.table c.args.at)

pub u16_at-requires : goal.u16_at-requires
u16_at-requires c = omega (arith, c.requires, ap entry_width (wide c))

pub returns-in-Narrow : goal.returns-in-Narrow
returns-in-Narrow c = rw (narrow (goal.at.returns-in-Narrow c).In-Narrow)

pub returns-in-Wide : goal.returns-in-Wide
returns-in-Wide c = rw (wide (goal.at.returns-in-Wide c).In-Wide) c.u16_at.ensures

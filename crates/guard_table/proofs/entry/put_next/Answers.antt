-- `guard_table::entry::put_next`: one byte, or two. Assumes nothing.
use Rattle.std.proofs.Common.{ap, arith, ◌≡◌}
use Rattle.guard_table.specs.Meaning.RowKind.{states_most, entry_width}
use Rattle.guard_table.specs.declared.kind.RowKind.TheVariants.{Narrow, Wide}
use Rattle.guard_table.proofs.entry.put_next.Goals.{In-Narrow, In-Wide}
use Rattle.guard_table.proofs.entry.put_next.Goals as goal

narrow : (c : In-Narrow) → c.args.kind ≡ Narrow
narrow c = c.in-Narrow.is

wide : (c : In-Wide) → c.args.kind ≡ Wide
wide c = c.in-Wide.is

pub overflow_cast-res : goal.overflow_cast-res
overflow_cast-res c = omega (arith, c.requires.1, ap states_most (narrow c))

pub bounds-res-at : goal.bounds-res-at
bounds-res-at c = omega (arith, c.requires.0, ap entry_width (narrow c))

pub put_u16-requires : goal.put_u16-requires
put_u16-requires c = omega (arith, c.requires.0, ap entry_width (wide (goal.at.put_u16-requires c).In-Wide))

pub returns-in-Narrow : goal.returns-in-Narrow
returns-in-Narrow c = rw (narrow c)

pub returns-in-Wide : goal.returns-in-Wide
returns-in-Wide c = let at = c in rw (wide (goal.at.returns-in-Wide at).In-Wide) at.put_u16.ensures

-- `guard_table::entry::put_entry`: the output, then the next state. Assumes nothing.
use Rattle.std.proofs.Common.{arith, ◌∙◌}
use native.Mathlib.Numerals.{add-one}
use lib.ListN.{length-set}
use Rattle.guard_table.specs.Laws.RowKind.{width-least}
use Rattle.guard_table.proofs.entry.put_entry.Goals as goal

pub bounds-res-at : goal.bounds-res-at
bounds-res-at c = omega (arith, width-least c.args.kind)

pub put_next-requires : goal.put_next-requires
put_next-requires c = let s = c in simp length-set (omega arith, s.requires.1)

pub shape_of-res : goal.shape_of-res
shape_of-res c = c.put_next.auto.res ∙ simp length-set

pub returns : goal.returns
returns c = rw add-one at c.put_next.ensures

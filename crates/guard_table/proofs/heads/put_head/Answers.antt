-- `guard_table::heads::put_head`: ten bytes, stored one after the other. Assumes nothing.
use Rattle.std.proofs.Common.{arith, ◌∙◌}
use lib.ListN.{length-set}
use Rattle.guard_table.proofs.heads.put_head.Goals as goal

-- four alike, of four stores: the check does not find them at half its limits
pub bounds-res-5 : goal.bounds-res-5
bounds-res-5 c = simp length-set (omega arith)

pub bounds-res-6 : goal.bounds-res-6
bounds-res-6 c = simp length-set (omega arith)

pub bounds-res-7 : goal.bounds-res-7
bounds-res-7 c = simp length-set (omega arith)

pub put_u16-requires : goal.put_u16-requires
put_u16-requires c = simp length-set (omega arith)

pub shape_of-res : goal.shape_of-res
shape_of-res c = c.put_u16.auto.out ∙ simp length-set c.put_header.auto.out

pub returns : goal.returns
returns c = rw (c.put_u16.ensures, c.put_header.ensures)

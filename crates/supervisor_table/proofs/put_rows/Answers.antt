-- `supervisor_table::put_rows`: the records of the states before k are stored. Assumes nothing.
use Rattle.std.proofs.Common.{arith, sym, ◌*◌, ◌+◌, ◌∙◌, ◌≤◌}
use lib.ListN.{length}
use Rattle.supervisor_table.specs.Laws.MaskRows.{length-mask_row}
use Rattle.records.specs.Laws.Stores.{no_block, more_blocks}
use Rattle.supervisor_table.proofs.Stores.{row_inside}
use Rattle.supervisor_table.proofs.put_rows.Goals.{In-loop-k}
use Rattle.supervisor_table.proofs.put_rows.Goals as goal

-- the record of state k lies inside the result
inside : (c : In-loop-k)
    → 9 + c.loop-k.k * c.row_length-size.result + (5 + c.args.sifted.now.table.ins) ≤ length c.args.res.now
inside c =
    row_inside c.args.sifted.now.table.ins c.args.sifted.now.table.n c.loop-k.k c.row_length-size.ensures.0 c.loop-k-test.true
    c.requires.room

pub loop-k-init : goal.loop-k-init
loop-k-init c = no_block

pub overflow_mul-k : goal.overflow_mul-k
overflow_mul-k c = omega (arith, inside (goal.at.overflow_mul-k c).In-loop-k)

pub overflow_add-k : goal.overflow_add-k
overflow_add-k c = omega (arith, inside (goal.at.overflow_add-k c).In-loop-k)

pub put_row-requires-clause-room : goal.put_row-requires-clause-room
put_row-requires-clause-room c =
    omega (arith, inside (goal.at.put_row-requires-clause-room c).In-loop-k, c.loop-k.auto.res)

pub loop-k-preserved : goal.loop-k-preserved
loop-k-preserved c =
    more_blocks c.loop-k.invariant (λ q. length-mask_row _ _ _ _ q ∙ sym c.row_length-size.ensures.0) c.put_row.ensures

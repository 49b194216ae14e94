-- `forced_rows::put_rows`: the rows of the states before k are stored. Assumes nothing.
use Rattle.std.proofs.Common.{arith, ◌*◌, ◌+◌, ◌≤◌}
use native.Mathlib.Nat.{zero-add}
use lib.ListN.{length}
use Rattle.records.specs.Laws.Stores.{no_block, more_blocks}
use Rattle.rounds.specs.Laws.CellPlaces.{row_in_table}
use Rattle.forced_rows.specs.Meaning.ForcedBytes.{forced_length}
use Rattle.forced_rows.specs.Laws.ForcedRows.{length-forced_row}
use Rattle.forced_rows.proofs.put_rows.Goals.{In-loop-k}
use Rattle.forced_rows.proofs.put_rows.Goals as goal

-- the row of state k lies inside the result
inside : (c : In-loop-k) → let width = 3 + c.args.sifted.now.table.outs in
    c.loop-k.k * width + width ≤ length c.args.res.now
unfolding forced_length
inside c = omega (arith, row_in_table (3 + c.args.sifted.now.table.outs) c.loop-k-test.true, c.requires.room)

pub loop-k-init : goal.loop-k-init
loop-k-init c = no_block

pub overflow_mul-k : goal.overflow_mul-k
overflow_mul-k c = omega (arith, inside (goal.at.overflow_mul-k c).In-loop-k)

pub put_row-requires-clause-room : goal.put_row-requires-clause-room
put_row-requires-clause-room c =
    omega (arith, inside (goal.at.put_row-requires-clause-room c).In-loop-k, c.loop-k.auto.res)

pub loop-k-preserved : goal.loop-k-preserved
loop-k-preserved c = more_blocks c.loop-k.invariant (length-forced_row _ _ _ _) (rw zero-add c.put_row.ensures)

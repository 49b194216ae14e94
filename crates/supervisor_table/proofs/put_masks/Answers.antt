-- `supervisor_table::put_masks`: the masks of the inputs before i are stored. Assumes nothing.
use Rattle.records.specs.Laws.Stores.{none, more}
use Rattle.supervisor_table.proofs.put_masks.Goals as goal

pub loop-i-init : goal.loop-i-init
loop-i-init c = none

pub loop-i-preserved : goal.loop-i-preserved
loop-i-preserved c = more c.loop-i.invariant c.mask_of.ensures

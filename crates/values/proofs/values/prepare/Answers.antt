-- `values::values::prepare`: the arrivals of the states before k. Assumes nothing.
use Rattle.std.proofs.Common.{refl, sym}
use Rattle.records.specs.Laws.Lists.{put_none, put_next}
use Rattle.values.specs.Model.Arrivals.{arrival}
use Rattle.values.proofs.values.prepare.Goals as goal

pub loop-k-init : goal.loop-k-init
loop-k-init c = sym (put_none _ _)

pub loop-k-preserved : goal.loop-k-preserved
unfolding arrival
loop-k-preserved c = put_next _ _ _ c.loop-k.invariant refl

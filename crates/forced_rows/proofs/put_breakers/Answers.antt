-- `forced_rows::put_breakers`: the monitors of the outputs before o are stored. Assumes nothing.
use Rattle.records.specs.Laws.Stores.{none, more}
use Rattle.forced_rows.proofs.put_breakers.Goals as goal

pub loop-o-init : goal.loop-o-init
loop-o-init c = none

pub loop-o-preserved : goal.loop-o-preserved
loop-o-preserved c = more c.loop-o.invariant c.breaker_at.ensures

-- `values::values::ReadyGame::value_round`: the entries of the states before k. Assumes nothing.
use Rattle.std.proofs.Common.{arith, sym}
use Rattle.records.specs.Laws.Lists.{put_none, put_next}
use Rattle.values.specs.Laws.Ready.{ready_in}
use Rattle.values.proofs.values.ReadyGame.value_round.Goals as goal

pub loop-k-init : goal.loop-k-init
loop-k-init c = sym (put_none _ _)

pub loop-k-preserved : goal.loop-k-preserved
loop-k-preserved c = put_next _ _ _ c.loop-k.invariant c.worth_of.ensures

pub worth_of-requires : goal.worth_of-requires
worth_of-requires c = ready_in c.args.self.now (omega arith)

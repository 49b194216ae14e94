-- `rounds::StepTable::one_round`: the states before k have their entries after the round. Assumes nothing.
use Rattle.std.proofs.Common.{arith}
use Rattle.records.specs.Laws.Tests.{said}
use Rattle.rounds.proofs.Turn.{begin, lost_most, drop, keep, end}
use Rattle.rounds.proofs.StepTable.one_round.Goals.{then-round_drops, else-round_drops}
use Rattle.rounds.proofs.StepTable.one_round.Goals as goal

pub loop-k-init : goal.loop-k-init
loop-k-init c = begin _ _ _ _ _ _

pub overflow_add-lost : goal.overflow_add-lost
overflow_add-lost c = omega (arith, lost_most c.loop-k.invariant)

pub loop-k-preserved : goal.loop-k-preserved
loop-k-preserved c =
    let table = c.args.self.now.steps in
    let inv = c.loop-k.invariant in
    let pre = c.requires in
    let answer = c.round_drops.ensures in
    elim c.if-round_drops.branch [
      | then-round_drops w ↦ drop inv table pre.n_in_bounds pre.before_round (omega arith) (said answer w.if-round_drops.true) w.dropped-is w.lost-is
      | else-round_drops w ↦ keep inv table pre.n_in_bounds pre.before_round (omega arith) (said answer w.if-round_drops.false) w.dropped-is w.lost-is
    ]

pub returns : goal.returns
returns c = end c.loop-k.invariant c.requires.n_in_bounds (omega arith)

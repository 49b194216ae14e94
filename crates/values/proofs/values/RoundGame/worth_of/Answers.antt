-- `values::values::RoundGame::worth_of`: the sum of the best scores of the inputs before i. Assumes nothing.
use Rattle.std.proofs.Common.{ap, arith, sym, ◌∙◌, ◌≡◌}
use Rattle.records.specs.Laws.Bounded.{sum_none}
use Rattle.records.specs.Laws.Tests.{said}
use Rattle.values.proofs.Best.{summed, summed_more, worth_lost, worth_kept}
use Rattle.values.proofs.values.RoundGame.worth_of.Goals as goal

pub returns-then-not-is_kept : goal.returns-then-not-is_kept
returns-then-not-is_kept c = worth_lost _ _ _ _ (said c.is_kept.ensures c.if-not-is_kept.true)

pub loop-i-init : goal.loop-i-init
loop-i-init c = sym (sum_none _)

pub overflow_add-sum : goal.overflow_add-sum
overflow_add-sum c =
    omega (arith, (summed_more c.requires c.loop-i-test.true c.loop-i.invariant c.best_score-sum.ensures).1)

pub loop-i-preserved : goal.loop-i-preserved
loop-i-preserved c = (summed_more c.requires c.loop-i-test.true c.loop-i.invariant c.best_score-sum.ensures).0

pub returns : goal.returns
returns c =
    let e : c.loop-i.i ≡ c.args.self.now.game.steps.ins = omega (arith, c.loop-i-test.false) in
    worth_kept _ _ _ _ (said c.is_kept.ensures c.if-not-is_kept.false)
    (c.loop-i.invariant ∙ ap (summed _ _ _ _) e)

-- `product::rewards::soft_reward`: the sum over the monitors before j, each at most 255. Assumes nothing.
use Rattle.std.proofs.Common.{arith, sym, ◌∙◌}
use Rattle.records.specs.Laws.Bounded.{sum_none, sum_more}
use Rattle.sheet.specs.Laws.Placed.{length_monitors}
use Rattle.product.proofs.Moving.{soft_end}
use Rattle.product.proofs.rewards.soft_reward.Goals as goal

pub loop-j-init : goal.loop-j-init
loop-j-init c = (sym (sum_none _), omega arith)

pub loop-j-preserved : goal.loop-j-preserved
loop-j-preserved c = (
  rw (sum_more, c.loop-j.invariant.0, c.soft_weight-total.ensures.0),
  omega (arith, c.soft_weight-total.ensures.1),
)

pub returns : goal.returns
returns c =
    c.loop-j.invariant.0
    ∙ soft_end _ _ _ (omega (arith, length_monitors c.args.sheet.now.bytes.now c.args.sheet.now.layout))

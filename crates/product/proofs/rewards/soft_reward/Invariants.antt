-- `product::rewards::soft_reward`: the sum over the monitors before j, each at most 255. Assumes nothing.
use Rattle.std.proofs.Common.{◌*◌, ◌≡◌, ◌≤◌}
use Rattle.records.specs.Meaning.Bounded.{sum}
use Rattle.sheet.specs.Model.Meant.{meant}
use Rattle.product.specs.Model.Stages.{soft_term}
use Rattle.product.proofs.rewards.soft_reward.Given as goal

abbrev pub invariant-loop-j : goal.invariant-loop-j
invariant-loop-j l = (l.total ≡ sum l.j (soft_term (meant l.sheet) l.t)) × (l.total ≤ 255 * l.j)

-- `product::rewards::match_reward`: at most 255 for each of three lines. Assumes nothing.
use Rattle.std.proofs.Common.{[], arith, ◌*◌, ◌≤◌}
use native.Mathlib.Nat.{mul-le-mul}
use borrow.Author.Tests.{eq-eqb, ne_eqb}
use Rattle.sheet.specs.Model.Where.{decoded}
use Rattle.product.specs.Model.Stages.{match_reward}
use Rattle.product.specs.Laws.Rewards.{lines_most}
use Rattle.product.proofs.rewards.match_reward.Goals.{After-equal_lines}
use Rattle.product.proofs.rewards.match_reward.Goals as goal

few : (c : After-equal_lines) → c.equal_lines.result ≤ c.args.sheet.outputs
unfolding decoded
few c = rw (c.equal_lines.ensures []) (lines_most (decoded [] c.args.sheet) _ _)

most : (c : After-equal_lines) → c.args.sheet.matching * c.equal_lines.result ≤ 765
most c = mul-le-mul {n₂ = 255} {m₂ = 3} (omega arith) (omega (arith, few c))

pub returns-then-sheet-ne1 : goal.returns-then-sheet-ne1
unfolding match_reward decoded
returns-then-sheet-ne1 c = λ s. rw (ne_eqb _ 1 c.if-sheet-ne1.true)

pub overflow_mul-result : goal.overflow_mul-result
overflow_mul-result c = omega (arith, most c)

pub returns : goal.returns
unfolding match_reward decoded
returns c = λ s. rw (eq-eqb _ 1 c.if-sheet-ne1.false, c.equal_lines.ensures s)

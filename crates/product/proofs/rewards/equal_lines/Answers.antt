-- `product::rewards::equal_lines`: the equal lines before j. Assumes nothing.
use Rattle.std.proofs.Common.{arith, sym, ◌∙◌, ◌≡◌}
use Rattle.records.specs.Laws.Tests.{said}
use Rattle.records.specs.Laws.Bounded.{count_none, count_more}
use Rattle.sheet.specs.Model.Where.{decoded}
use Rattle.product.specs.Laws.Rewards.{lines-count}
use Rattle.product.proofs.rewards.equal_lines.Goals.{else-same_line, then-same_line}
use Rattle.product.proofs.rewards.equal_lines.Goals as goal

pub loop-j-init : goal.loop-j-init
loop-j-init c = (sym (count_none _), omega arith)

pub loop-j-preserved : goal.loop-j-preserved
loop-j-preserved c =
    let inv = c.loop-j.invariant in
    let found = c.same_line.ensures in
    elim c.if-same_line.branch [
      | then-same_line w ↦ (w.n-is ∙ rw (count_more, said found w.if-same_line.true, inv.0), omega (arith, w.n-is))
      | else-same_line w ↦ (w.n-is ∙ rw (count_more, said found w.if-same_line.false, inv.0) (omega arith), omega (arith, w.n-is))
    ]

pub returns : goal.returns
unfolding decoded
returns c =
    λ s.
    let sheet = c.args.sheet in
    let all : c.loop-j.j ≡ sheet.outputs = omega arith in
    c.loop-j.invariant.0 ∙ rw (all, c.proposal_of-proposed.ensures s) (lines-count (decoded s sheet) _ _)

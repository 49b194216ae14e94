-- `product::rewards::equal_lines`: the equal lines before j. Assumes nothing.
use Rattle.std.proofs.Common.{◌≡◌, ◌≤◌}
use Rattle.records.specs.Meaning.Bounded.{count}
use Rattle.product.specs.Model.Stages.{same_line}
use Rattle.product.proofs.rewards.equal_lines.Given as goal

abbrev pub invariant-loop-j : goal.invariant-loop-j
invariant-loop-j l = (l.n ≡ count l.j (same_line l.output l.proposed)) × (l.n ≤ l.j)

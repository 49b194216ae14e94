-- `outlook::span::RoundBoth::sums_of`: the sums over the inputs before i. Assumes nothing.
use Rattle.std.proofs.Common.{arith, sym, ◌∙◌}
use Rattle.records.specs.Laws.Tests.{said}
use Rattle.outlook.proofs.Summing.{begin, fits, more, same, lost, end}
use Rattle.outlook.proofs.span.RoundBoth.sums_of.Goals.{in-Some, in_default}
use Rattle.outlook.proofs.span.RoundBoth.sums_of.Goals as goal

pub returns-then-not-is_kept : goal.returns-then-not-is_kept
returns-then-not-is_kept c = lost _ _ _ _ _ (said c.is_kept.ensures c.if-not-is_kept.true)

pub loop-i-init : goal.loop-i-init
loop-i-init c = begin _ _ _ _ _

pub overflow_add-best : goal.overflow_add-best
overflow_add-best c =
    omega (
      arith,
      (fits c.loop-i.invariant c.loop-i-test.true c.requires.high c.requires.low
          (sym c.in-Some.is ∙ c.span_at.ensures)).0,
    )

pub overflow_add-least : goal.overflow_add-least
overflow_add-least c =
    omega (
      arith,
      (fits c.loop-i.invariant c.loop-i-test.true c.requires.high c.requires.low
          (sym c.in-Some.is ∙ c.span_at.ensures)).1,
    )

pub loop-i-preserved : goal.loop-i-preserved
loop-i-preserved c =
    elim c.match-span_at.branch [
      | in-Some w ↦
          rw (w.best-is, w.least-is)
          (more c.loop-i.invariant c.loop-i-test.true c.requires.high c.requires.low
          (sym w.in-Some.is ∙ c.span_at.ensures))
      | in_default w ↦
          rw (w.best-is, w.least-is) (same c.loop-i.invariant c.loop-i-test.true (sym w.in_default.is ∙ c.span_at.ensures))
    ]

pub returns : goal.returns
returns c = end _ _ _ _ _ (said c.is_kept.ensures c.if-not-is_kept.false) c.loop-i-test.false c.loop-i.invariant

-- `sheet_fields::head::literals_ok`: the literals before j are in order. Assumes nothing.
use Rattle.std.proofs.Common.{arith, sym}
use borrow.Author.Count.{below_more}
use Rattle.records.specs.Laws.Tests.{said}
use Rattle.records.specs.Laws.Bounded.{all_of, all_fails}
use Rattle.sheet_fields.specs.Meaning.Head.{literals_ok}
use Rattle.sheet_fields.proofs.head.literals_ok.Goals as goal

pub returns-then-not-literal_ok : goal.returns-then-not-literal_ok
unfolding literals_ok
returns-then-not-literal_ok c = sym (all_fails _ _ c.loop-j.j (omega arith) (said c.literal_ok.ensures c.if-not-literal_ok.true))

pub loop-j-preserved : goal.loop-j-preserved
loop-j-preserved c = below_more _ _ c.loop-j.invariant (said c.literal_ok.ensures c.if-not-literal_ok.false)

pub returns : goal.returns
unfolding literals_ok
returns c = sym (all_of _ _ (λ k l. c.loop-j.invariant k (omega arith)))

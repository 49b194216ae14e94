-- `values::order::rank_of`: the rank by the literals before j. Assumes nothing.
use Rattle.std.proofs.Common.{arith, sym, ◌<◌, ◌∙◌, ◌≡◌}
use Rattle.records.specs.Meaning.Limits.{max_outs}
use Rattle.values.specs.Laws.Ranks.{ranked}
use Rattle.values.proofs.Ranking.{rank_none, rank_more, rank_small, digit_small}
use Rattle.values.proofs.order.rank_of.Goals.{After-digit_of-digit}
use Rattle.values.proofs.order.rank_of.Goals as goal

-- the rank so far is below eight, and the digit is a bit
small : (c : After-digit_of-digit) → (c.loop-j.rank < max_outs) × (c.digit_of-digit.result < 2)
small c = (rank_small _ _ _ _ c.loop-j.invariant (omega (arith, c.loop-j-test.true)), digit_small _ _ _ c.digit_of-digit.ensures)

pub loop-j-init : goal.loop-j-init
loop-j-init c = sym (rank_none _ _)

pub overflow_mul-rank : goal.overflow_mul-rank
overflow_mul-rank c = omega (arith, small c)

pub overflow_add-rank : goal.overflow_add-rank
overflow_add-rank c = omega (arith, small c)

pub loop-j-preserved : goal.loop-j-preserved
loop-j-preserved c = rw rank_more (omega (arith, c.loop-j.invariant, c.digit_of-digit.ensures))

pub returns : goal.returns
returns c = let e : c.loop-j.j ≡ c.args.count = omega (arith, c.loop-j-test.false) in ranked _ _ _ _ (c.loop-j.invariant ∙ rw e)

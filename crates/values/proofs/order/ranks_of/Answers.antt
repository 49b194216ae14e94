-- `values::order::ranks_of`: the ranks of the outputs before o. Assumes nothing.
use Rattle.std.proofs.Common.{arith, refl, sym, ◌∙◌, ◌≡◌}
use Rattle.records.specs.Meaning.Limits.{max_outs}
use Rattle.records.specs.Laws.Lists.{put_none, put_next, put-tab}
use Rattle.values.proofs.order.ranks_of.Goals as goal

pub loop-o-init : goal.loop-o-init
loop-o-init c = sym (put_none _ _)

pub loop-o-preserved : goal.loop-o-preserved
loop-o-preserved c = put_next _ _ _ c.loop-o.invariant c.rank_of.ensures.found

pub returns : goal.returns
returns c =
    let e : c.loop-o.o ≡ max_outs = omega (arith, c.loop-o-test.false) in
    c.loop-o.invariant ∙ rw e (put-tab _ _ _ refl)

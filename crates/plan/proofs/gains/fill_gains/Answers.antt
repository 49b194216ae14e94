-- `plan::gains::fill_gains`: the gains of the tuples before k are stored. Assumes nothing.
use Rattle.std.proofs.Common.{List, ap, ap₂, arith, sym, ℕ, ◌∙◌, ◌≡◌}
use lib.ListN.{set}
use Rattle.records.specs.Laws.Lists.{put_none, put_more}
use Rattle.sheet.specs.Model.Meant.{meant}
use Rattle.product.specs.Meaning.Step.{soft_reward, weight_of}
use Rattle.product.specs.Model.States.{tuple_at}
use Rattle.product.specs.Laws.Rewards.{soft_most}
use Rattle.plan.proofs.gains.fill_gains.Goals.{After-soft_reward}
use Rattle.plan.proofs.gains.fill_gains.Invariants.{gain}
use Rattle.plan.proofs.gains.fill_gains.Goals as goal

-- what the call says
earned : (c : After-soft_reward) → let a = c.args in c.soft_reward.result ≡ gain a.sheet.now a.tuples.now c.loop-k.k
earned c =
    let d = meant c.args.sheet.now in c.soft_reward.ensures ∙ ap (λ (t : List ℕ). soft_reward (weight_of d) d t) c.load_tuple.ensures

pub loop-k-init : goal.loop-k-init
loop-k-init c = sym (put_none _ _)

pub overflow_cast-gains : goal.overflow_cast-gains
overflow_cast-gains c =
    let a = c.args in
    let most = soft_most (meant a.sheet.now) a.sheet.now.fits.ok (tuple_at a.tuples.now c.loop-k.k) in
    record { fits = omega (arith, earned (goal.at.overflow_cast-gains c).After-soft_reward, most) }

pub loop-k-preserved : goal.loop-k-preserved
loop-k-preserved c =
    let a = c.args in
    ap₂ (λ (l : List ℕ) (x : ℕ). set l c.loop-k.k x) c.loop-k.invariant (earned (goal.at.loop-k-preserved c).After-soft_reward)
    ∙ put_more _ _ (gain a.sheet.now a.tuples.now)

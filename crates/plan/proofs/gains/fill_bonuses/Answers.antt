-- `plan::gains::fill_bonuses`: the bonuses of the letters before l are stored. Assumes nothing.
use Rattle.std.proofs.Common.{List, ap₂, arith, sym, ℕ, ◌%◌, ◌*◌, ◌/◌, ◌∙◌, ◌≡◌}
use lib.ListN.{set}
use Rattle.records.specs.Laws.Lists.{put_none, put_more}
use Rattle.sheet.specs.Laws.LayoutFacts.{site_most, outputs_low}
use Rattle.sheet.specs.Model.Where.{decoded}
use Rattle.product.specs.Laws.Rewards.{match_most}
use Rattle.plan.proofs.gains.fill_bonuses.Invariants.{bonus}
use Rattle.plan.proofs.gains.fill_bonuses.Goals as goal

pub loop-l-init : goal.loop-l-init
loop-l-init c = λ s. sym (put_none _ _)

pub match_reward-requires : goal.match_reward-requires
match_reward-requires c = let fits = c.requires.fits.1 in (site_most fits, outputs_low fits)

pub overflow_cast-bonuses : goal.overflow_cast-bonuses
overflow_cast-bonuses c =
    let s : List ℕ = c.requires.fits.0 in
    let most = match_most (decoded s c.args.sheet) c.requires.fits.1.ok (c.loop-l.l % c.args.ins) (c.loop-l.l / c.args.ins) in
    record { fits = omega (arith, c.match_reward.ensures s, most) }

pub loop-l-preserved : goal.loop-l-preserved
loop-l-preserved c =
    let a = c.args in
    λ s. ap₂ (λ (l : List ℕ) (x : ℕ). set l c.loop-l.l x) (c.loop-l.invariant s) (c.match_reward.ensures s)
    ∙ put_more _ _ (bonus a.sheet a.ins s)

pub returns : goal.returns
returns c = let e : c.loop-l.l ≡ c.args.ins * c.args.outs = omega (arith, c.loop-l.auto.l-end, c.loop-l-test.false) in λ s. c.loop-l.invariant s ∙ rw e

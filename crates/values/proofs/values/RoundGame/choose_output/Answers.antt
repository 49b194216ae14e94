-- `values::values::RoundGame::choose_output`: the leader of the outputs before o. Assumes nothing.
use Rattle.std.proofs.Common.{arith, sym, ◌∙◌, ◌≡◌}
use Rattle.values.proofs.Leading.{lead_begin, lead_more, lead_same, lead_end, lead_none}
use Rattle.values.proofs.values.RoundGame.choose_output.Goals.{in-Some, in_default}
use Rattle.values.proofs.values.RoundGame.choose_output.Goals as goal

pub loop-o-init : goal.loop-o-init
loop-o-init c = lead_begin _ _ _ _ _ _

pub loop-o-preserved : goal.loop-o-preserved
loop-o-preserved c =
    elim c.match-offer_of.branch [
      | in-Some w ↦ w.leader-is ∙ lead_more _ _ _ _ _ _ _ (sym w.in-Some.is ∙ c.offer_of.ensures) c.loop-o.invariant w.against.ensures
      | in_default w ↦ w.leader-is ∙ lead_same _ _ _ _ _ _ _ (sym w.in_default.is ∙ c.offer_of.ensures) c.loop-o.invariant
    ]

pub overflow_cast-result : goal.overflow_cast-result
overflow_cast-result c =
    let e : c.loop-o.o ≡ c.args.self.now.game.steps.outs = omega (arith, c.loop-o-test.false) in
    let low = (lead_end _ _ _ _ _ _ _ e (sym c.in-Some-leader.is ∙ c.loop-o.invariant)).1 in
    record { fits = omega (arith, low, c.requires.ready.sized.outputs_most) }

pub returns-in-Some-leader : goal.returns-in-Some-leader
returns-in-Some-leader c =
    let e : c.loop-o.o ≡ c.args.self.now.game.steps.outs = omega (arith, c.loop-o-test.false) in
    (lead_end _ _ _ _ _ _ _ e (sym c.in-Some-leader.is ∙ c.loop-o.invariant)).0

pub returns-in-None : goal.returns-in-None
returns-in-None c =
    let e : c.loop-o.o ≡ c.args.self.now.game.steps.outs = omega (arith, c.loop-o-test.false) in
    lead_none _ _ _ _ _ _ _ e (sym c.in-None.is ∙ c.loop-o.invariant)

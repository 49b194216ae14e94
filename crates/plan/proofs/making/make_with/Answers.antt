-- `plan::making::make_with`: the opening's refusals, then 9, and then the table is written. Assumes nothing.
use Rattle.std.proofs.Common.{ap, arith, ◌∙◌}
use Rattle.std.proofs.lemmas.Result.{err_from_is_err_and}
use Rattle.sheet.specs.Laws.LayoutFacts.{inputs_low, outputs_low}
use Rattle.values.specs.declared.values.StepCells.{StepCells}
use Rattle.plan.specs.Model.GuardOfSheet.{guard_table_of, states_of}
use Rattle.plan.specs.Laws.Planned.{playable, own_horizon, horizon_in_bounds}
use Rattle.plan.specs.Laws.Answered.{layout_short, layout_written}
use Rattle.plan.proofs.making.make_with.Goals as goal

pub returns-in_err-opened : goal.returns-in_err-opened
returns-in_err-opened c =
    let p = err_from_is_err_and c.from_residual.result c.from_residual.ensures.1 in
    rw (p.1, p.2) (c.in_err-opened.ensures.memory guard_table_of states_of c.args.res.now)

pub pow2-requires : goal.pow2-requires
pow2-requires c = omega (arith, inputs_low c.in_ok-opened.ensures.memory.fits)

pub pow2-requires-2 : goal.pow2-requires-2
pow2-requires-2 c = omega (arith, outputs_low c.in_ok-opened.ensures.memory.fits)

pub plan-guard-requires-clause-horizon : goal.plan-guard-requires-clause-horizon
plan-guard-requires-clause-horizon c = horizon_in_bounds c.in_ok-opened.ensures.memory.fits

pub guard_length-length-requires : goal.guard_length-length-requires
guard_length-length-requires c = (inputs_low c.in_ok-opened.ensures.memory.fits, c.plan-guard.ensures.planned.tabled.few)

pub returns-then-res-length : goal.returns-then-res-length
returns-then-res-length c =
    let opened = c.in_ok-opened.ensures.memory in
    opened.answers guard_table_of states_of
    (layout_short (λ d. d.horizon) opened.fits (playable opened.solution) (own_horizon _ _) c.plan-guard.ensures.planned
    c.args.res.now c.guard_length-length.ensures (omega (arith, c.if-res-length.true)))

pub write-requires : goal.write-requires
write-requires c =
    let fits = c.in_ok-opened.ensures.memory.fits in
    (ap (λ (s : StepCells). s.ins) c.plan-guard.ensures.steps ∙ c.pow2.ensures, (inputs_low fits, omega (arith, c.guard_length-length.ensures, c.if-res-length.false)))

pub returns : goal.returns
returns c =
    let opened = c.in_ok-opened.ensures.memory in
    opened.answers guard_table_of states_of
    (layout_written (λ d. d.horizon) opened.fits (playable opened.solution) (own_horizon _ _) c.plan-guard.ensures.planned
    c.args.res.now c.guard_length-length.ensures (omega (arith, c.if-res-length.false)) c.write.ensures)

-- `guard::make::Guard::make`: the whole promise from the answer by the model. Assumes nothing.
use Rattle.std.proofs.Common.{Bool, arith, subst, sym, ◌∙◌, ◌≡◌}
use Rattle.solve.specs.Model.Making.{Answers}
use Rattle.records.specs.Meaning.Work.{long_enough}
use Rattle.plan.specs.Model.GuardOfSheet.{guard_table_of, states_of}
use Rattle.guard.specs.Promises.GuardMaker.{guard_work}
use Rattle.guard.proofs.Lent.{lengths, work_room}
use Rattle.guard.proofs.Promise.{guard_promise}
use Rattle.guard.proofs.make.Guard.make.Goals.{After-long_enough-ok}
use Rattle.guard.proofs.make.Guard.make.Goals as goal

-- the test is the definition's
tested : (c : After-long_enough-ok) → let a = c.args in
    c.long_enough-ok.result ≡ long_enough guard_work
    (lengths a.tuples.now a.cells.now a.dropped.now a.gains.now a.bonuses.now a.values.now a.arrivals.now a.order.now a.numbers.now)
unfolding Rattle.records.specs.Laws.Work.exactly
tested c = c.long_enough-ok.ensures guard_work search

pub make_cleared-requires : goal.make_cleared-requires
make_cleared-requires c =
    let a = c.args in
    λ e. work_room a.tuples.now a.cells.now a.dropped.now a.gains.now a.bonuses.now a.values.now a.arrivals.now
    a.order.now a.numbers.now (sym (tested (goal.at.make_cleared-requires c).After-long_enough-ok) ∙ e)

pub returns-clause-made : goal.returns-clause-made
returns-clause-made c =
    let a = c.args in
    guard_promise
    (lengths a.tuples.now a.cells.now a.dropped.now a.gains.now a.bonuses.now a.values.now a.arrivals.now a.order.now a.numbers.now)
    (λ k. omega (arith, c.type_inv.sheet k))
    (subst (λ (b : Bool). Answers guard_table_of states_of b a.sheet.now a.res.now c.make_cleared.result c.make_cleared.new.res)
    (tested (goal.at.returns-clause-made c).After-long_enough-ok) c.make_cleared.ensures.made)

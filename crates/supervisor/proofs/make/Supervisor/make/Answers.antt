-- `supervisor::make::Supervisor::make`: the whole promise from the answer by the model. Assumes nothing.
use Rattle.std.proofs.Common.{Bool, List, [], arith, rules, subst, sym, ℕ, length, ◌∙◌, ◌∷◌, ◌≡◌}
use Rattle.records.specs.Meaning.Work.{long_enough}
use Rattle.records.specs.Laws.Work.{exactly}
use Rattle.solve.specs.Laws.OpeningWork.{opening_room}
use Rattle.product.specs.Model.ProductNumbering.{state_count}
use Rattle.solve.specs.Model.Making.{Answers}
use Rattle.supervisor.specs.Model.SupervisorOfSheet.{supervisor_table}
use Rattle.supervisor.specs.Promises.SupervisorMaker.{supervisor_work}
use Rattle.supervisor.proofs.Promise.{supervisor_promise}
use Rattle.supervisor.proofs.make.Supervisor.make.Goals.{After-long_enough-ok}
use Rattle.supervisor.proofs.make.Supervisor.make.Goals as goal

-- the work memory's lengths
abbrev lent : After-long_enough-ok → List ℕ
lent c = length c.args.tuples.now ∷ length c.args.cells.now ∷ length c.args.dropped.now ∷ []

-- whether they are enough
enough : (c : After-long_enough-ok) → c.long_enough-ok.result ≡ long_enough supervisor_work (lent c)
unfolding exactly
enough c = c.long_enough-ok.ensures supervisor_work (search rules)

pub make_with-made-requires : goal.make_with-made-requires
make_with-made-requires c =
    λ e. opening_room [] [] (sym (enough (goal.at.make_with-made-requires c).After-long_enough-ok) ∙ e)

pub returns-clause-made : goal.returns-clause-made
returns-clause-made c =
    let at = (goal.at.returns-clause-made c).After-long_enough-ok in
    supervisor_promise (lent at) (λ k. omega (arith, c.type_inv.sheet k))
    (subst (λ (b : Bool). Answers supervisor_table state_count b c.args.sheet.now c.args.res.now c.make_with-made.result c.make_with-made.new.res)
    (enough at) c.make_with-made.ensures)

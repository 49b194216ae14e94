-- `forced::make::Forcing::make`: the whole promise from the answer by the model. Assumes nothing.
use Rattle.std.proofs.Common.{Bool, List, [], arith, rules, subst, sym, ℕ, length, ◌∙◌, ◌∷◌, ◌≡◌}
use Rattle.records.specs.Meaning.Work.{long_enough}
use Rattle.records.specs.Laws.Work.{exactly}
use Rattle.solve.specs.Laws.OpeningWork.{opening_room}
use Rattle.forced.specs.Model.ForcedOfSheet.{Plays}
use Rattle.forced.specs.Promises.ForcedMaker.{forced_work}
use Rattle.forced.proofs.Promise.{forced_promise}
use Rattle.forced.proofs.make.Forcing.make.Goals.{After-long_enough-ok}
use Rattle.forced.proofs.make.Forcing.make.Goals as goal

-- the work memory's lengths
abbrev lent : After-long_enough-ok → List ℕ
lent c = length c.args.tuples.now ∷ length c.args.cells.now ∷ length c.args.dropped.now ∷ []

-- whether they are enough
enough : (c : After-long_enough-ok) → c.long_enough-ok.result ≡ long_enough forced_work (lent c)
unfolding exactly
enough c = c.long_enough-ok.ensures forced_work (search rules)

pub make_with-made-requires : goal.make_with-made-requires
make_with-made-requires c =
    λ e. opening_room [] [] (sym (enough (goal.at.make_with-made-requires c).After-long_enough-ok) ∙ e)

pub returns-clause-made : goal.returns-clause-made
returns-clause-made c =
    let at = (goal.at.returns-clause-made c).After-long_enough-ok in
    forced_promise (lent at) (λ k. omega (arith, c.type_inv.sheet k))
    (subst (λ (b : Bool). Plays b c.args.sheet.now c.args.res.now c.make_with-made.result c.make_with-made.new.res)
    (enough at) c.make_with-made.ensures)

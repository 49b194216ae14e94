-- `solve::opening::solve_sheet`: each refusal's answer, and what solving leaves where there is none. Assumes nothing.
use Rattle.std.proofs.lemmas.Result.{err_from_is_err_and}
use Rattle.solve.proofs.SheetSolved.{solves_short, solves_refused, solves_read}
use Rattle.solve.proofs.opening.solve_sheet.Goals as goal

pub returns-then-not-ok : goal.returns-then-not-ok
returns-then-not-ok c =
    let number = solves_short c.args.ok c.args.s.now c.if-not-ok.true in
    record { memory = number; answer = record { number = number; figures = tt } }

pub returns-in_err-layout : goal.returns-in_err-layout
returns-in_err-layout c =
    let p = err_from_is_err_and c.from_residual.result c.from_residual.ensures.1 in
    let number = solves_refused c.args.ok c.args.s.now c.if-not-ok.false c.read.ensures _ c.in_err-layout.was in
    rw (p.1, p.2) (record { memory = number; answer = record { number = number; figures = tt } })

pub returns : goal.returns
returns c =
    let both = solves_read c.args.ok c.args.s.now c.if-not-ok.false c.read.ensures c.in_ok-layout.was c.solve.result _ _ _
    c.solve.ensures.memory c.solve.ensures.layout in
    rw c.ok_or.ensures.value (record { memory = both.0; answer = both.1 })

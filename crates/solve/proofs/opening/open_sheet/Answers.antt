-- `solve::opening::open_sheet`: the refusals of solving. 8, and what solving leaves where there is none, close by the function's attribute.
-- Assumes nothing.
use Rattle.std.proofs.Common.{rules}
use Rattle.std.proofs.lemmas.Result.{err_from_is_err_and}
use Rattle.solve.proofs.Opened.{opens_unsolved, unsolved_answer}
use Rattle.solve.proofs.opening.open_sheet.Goals as goal

pub returns-in_err-solved : goal.returns-in_err-solved
returns-in_err-solved c =
    let p = err_from_is_err_and c.from_residual.result c.from_residual.ensures.1 in
    let number = c.in_err-solved.ensures.memory in
    rw (p.1, p.2)
    (record {
      memory = opens_unsolved c.args.ok c.args.s.now _ number;
      answer = unsolved_answer c.args.ok c.args.s.now _ number;
      start = tt;
    })

-- past the test the start is kept; the answer stands here so that a wrong test is told by this fact
pub returns-clause-start : goal.returns-clause-start
returns-clause-start c = search rules

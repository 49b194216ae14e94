-- `averages::average`: the quotient of two casts. Assumes nothing.
use Rattle.averages.specs.Laws.Averages.{cast_fits, quotient}
use Rattle.averages.proofs.average.Goals as goal

pub int_to_float-result : goal.int_to_float-result
int_to_float-result c = cast_fits _ c.requires.sum_bound

pub int_to_float-result-2 : goal.int_to_float-result-2
int_to_float-result-2 c = cast_fits _ c.requires.words_bounds.1

pub returns : goal.returns
returns c =
    let p = c.requires in
    quotient _ _ p.sum_bound p.words_bounds.0 p.words_bounds.1

-- No ground has the number 0.
-- Assumes nothing.
use Rattle.std.specs.Prelude.{◌<◌}
use Rattle.std.proofs.Common.{arith}
use Rattle.sheet.specs.Laws.Grounds.{number_positive}
use Rattle.forced.specs.Meaning.Answer.{stop_number}
use Rattle.forced.specs.declared.answer.Ground.{Ground}
use Rattle.forced.specs.declared.answer.Ground.TheVariants.{Realizable, Sheet}

pub stop_positive : (g : Ground) → 0 < stop_number g
stop_positive Realizable = omega arith
stop_positive (Sheet cause) = number_positive cause

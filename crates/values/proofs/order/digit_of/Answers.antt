-- `values::order::digit_of`: the formula. Assumes nothing.
use Rattle.std.proofs.Common.{arith}
use Rattle.values.proofs.Ranking.{digit_turned}
use Rattle.values.proofs.order.digit_of.Goals as goal

pub returns : goal.returns
returns c = digit_turned _ _ _ _ (omega arith) (λ h. omega arith) (λ h. omega arith)

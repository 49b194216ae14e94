-- No refusal of a call on a board has the number 0.
-- Assumes nothing.
use Rattle.std.specs.Prelude.{◌<◌, Err}
use Rattle.std.proofs.Common.{arith}
use Rattle.board.specs.Meaning.Board.{change_number}
use Rattle.board.specs.Meaning.Load.{load_number}
use Rattle.board.specs.Meaning.BoardStep.{step_number}
use Rattle.board.specs.declared.answers.LoadRefusal.{LoadRefusal}
use Rattle.board.specs.declared.answers.LoadRefusal.TheVariants as load
use Rattle.board.specs.declared.answers.StepRefusal.{StepRefusal}
use Rattle.board.specs.declared.answers.StepRefusal.TheVariants as step
use Rattle.board.specs.declared.answers.ChangeRefusal.{ChangeRefusal}
use Rattle.board.specs.declared.answers.ChangeRefusal.TheVariants as change

pub load_refuses : (cause : LoadRefusal) → 0 < load_number (Err cause)
load_refuses load.Occupied = omega arith
load_refuses load.BadTable = omega arith

pub step_refuses : (cause : StepRefusal) → 0 < step_number (Err cause)
step_refuses step.Empty = omega arith
step_refuses step.Spent = omega arith
step_refuses step.BadInput = omega arith
step_refuses step.BadTable = omega arith

pub change_refuses : (cause : ChangeRefusal) → 0 < change_number (Err cause)
change_refuses change.Empty = omega arith

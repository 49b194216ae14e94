-- What each public call promises, for all arguments.
-- Assumes nothing.
use Rattle.std.specs.Prelude.{◌≡◌, List, ℕ}
use Rattle.board.specs.Meaning.Board.{empty_board, Changing, rewind_on, unload_on, change_number, change_refusal}
use Rattle.board.specs.Meaning.Load.{Loading, load_on, load_number, load_refusal}
use Rattle.board.specs.Meaning.BoardStep.{Stepping, step_on, step_number, step_output, step_refusal, step_given}
use Rattle.game.specs.Meaning.Book.{Call, load, step, rewind, unload}
use Rattle.board.specs.Meaning.Calls.{load_says, step_says, change_says}
use Rattle.board.specs.Meaning.Deviations.{last, history, Counts, KeepsCount}
use Rattle.board.specs.declared.Board.{Board}

-- the whole board, and over every list of calls from it the count of deviations
pub record EmptyPromise (r : Board) : Type 0 where
  pub whole : r ≡ empty_board
  pub counted : (cs : List (Call (List ℕ))) → Counts (last r cs) (history r cs)

-- the whole result, document 01's number of its answer, its figures, and the count of deviations
pub record LoadPromise (b : Board) (t : List ℕ) (r : Loading) : Type 0 where
  pub whole : r ≡ load_on b t
  pub number : load_number r.answer ≡ load_refusal b t
  pub counted : KeepsCount b (load t) (load_says r) r.board

pub record StepPromise (b : Board) (t : List ℕ) (input : ℕ) (r : Stepping) : Type 0 where
  pub whole : r ≡ step_on b t input
  pub number : step_number r.answer ≡ step_refusal b t input
  pub output : step_output r.answer ≡ step_given b t input
  pub counted : KeepsCount b (step t input) (step_says r) r.board

pub record RewindPromise (b : Board) (r : Changing) : Type 0 where
  pub whole : r ≡ rewind_on b
  pub number : change_number r.answer ≡ change_refusal b
  pub counted : KeepsCount b rewind (change_says r) r.board

pub record UnloadPromise (b : Board) (r : Changing) : Type 0 where
  pub whole : r ≡ unload_on b
  pub number : change_number r.answer ≡ change_refusal b
  pub counted : KeepsCount b unload (change_says r) r.board

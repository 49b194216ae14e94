-- What a call on a board hands back, and what it answers: document 01's number and the output.
-- Assumes nothing.
use Rattle.std.specs.Prelude.{List, ℕ}
use Rattle.game.specs.Meaning.Book.{Call, load, step, rewind, unload, Answer}
use Rattle.board.specs.Meaning.Board.{Changing, rewind_on, unload_on, change_number}
use Rattle.board.specs.Meaning.Load.{Loading, load_on, load_number}
use Rattle.board.specs.Meaning.BoardStep.{Stepping, step_on, step_number, step_output}
use Rattle.board.specs.declared.Board.{Board}

-- the answers of a load, a step, and a rewind or unload
abbrev pub load_says : Loading → Answer
load_says r = record { number = load_number r.answer; output = 0 }

abbrev pub step_says : Stepping → Answer
step_says r = record { number = step_number r.answer; output = step_output r.answer }

abbrev pub change_says : Changing → Answer
change_says r = record { number = change_number r.answer; output = 0 }

-- the board that a call hands back, and what it answers
abbrev pub board_after : Board → Call (List ℕ) → Board
board_after b (load t) = (load_on b t).board
board_after b (step t i) = (step_on b t i).board
board_after b rewind = (rewind_on b).board
board_after b unload = (unload_on b).board

abbrev pub says : Board → Call (List ℕ) → Answer
says b (load t) = load_says (load_on b t)
says b (step t i) = step_says (step_on b t i)
says b rewind = change_says (rewind_on b)
says b unload = change_says (unload_on b)

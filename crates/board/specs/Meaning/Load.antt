-- Load (document 01, 'The board'): the board that a table gives, and what load hands back.
-- Assumes nothing.
use Rattle.std.specs.Prelude.{true, cond, List, ℕ, Result, Ok, Err}
use Rattle.guard_table.specs.Meaning.GuardTable.{head_mode, head_inputs, head_outputs, head_count}
use Rattle.guard_table.specs.Meaning.Loadable.{loadable}
use Rattle.board.specs.Meaning.Board.{live}
use Rattle.board.specs.declared.Board.{Board}
use Rattle.board.specs.declared.answers.Answered.{Answered}
use Rattle.board.specs.declared.answers.LoadRefusal.{LoadRefusal}
use Rattle.board.specs.declared.answers.LoadRefusal.TheVariants.{Occupied, BadTable}

-- the board that a table gives: its head's mode, lines and count, at the start of a run
unfoldable pub board_of : List ℕ → Board
board_of t =
    record {
      loaded = true;
      mode = head_mode t;
      inputs = head_inputs t;
      outputs = head_outputs t;
      count = head_count t;
      place = 0;
      steps = 0;
      deviations = 0;
    }

-- what a load answers, and what it hands back
abbrev pub Load : Type 0
Load = Result (Unit {0}) LoadRefusal

abbrev pub Loading : Type 0
Loading = Answered Load

unfoldable pub load_on : Board → List ℕ → Loading
load_on b t =
    cond (live b) (record { board = b; answer = Err Occupied })
    (cond (loadable t) (record { board = board_of t; answer = Ok tt }) (record { board = b; answer = Err BadTable }))

-- document 01's number of an answer, 0 for no refusal; the answer has no other figure
abbrev pub load_number : Load → ℕ
load_number (Ok done) = 0
load_number (Err Occupied) = 21
load_number (Err BadTable) = 11

-- the number that is due: 21, then 11
unfoldable pub load_refusal : Board → List ℕ → ℕ
load_refusal b t = cond (live b) 21 (cond (loadable t) 0 11)

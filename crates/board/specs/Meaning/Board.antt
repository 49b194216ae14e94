-- The board record (document 01, 'The board'): its ranges, and what rewind and unload hand back.
-- Assumes nothing.
use Rattle.std.specs.Prelude.{Bool, false, cond, ◌&&◌, ◌||◌, ℕ, ltb, leb, eqb, Result, Ok, Err}
use Rattle.records.specs.Meaning.Limits.{max_states, max_steps, lines_ok}
use Rattle.board.specs.declared.Board.{Board}
use Rattle.board.specs.declared.answers.Answered.{Answered}
use Rattle.board.specs.declared.answers.ChangeRefusal.{ChangeRefusal}
use Rattle.board.specs.declared.answers.ChangeRefusal.TheVariants.{Empty}

-- the ranges of count, place, steps and deviations
unfoldable pub counts_ok : ℕ → ℕ → ℕ → ℕ → ℕ → Bool
counts_ok mode count place steps deviations =
    leb 1 count
    && (leb count max_states && (ltb place count && (leb steps max_steps && (leb deviations steps && (eqb mode 1 || eqb deviations 0)))))

-- loaded, with every field in its range; a board that is not live counts as empty
unfoldable pub live : Board → Bool
live b =
    b.loaded && (lines_ok b.mode b.inputs b.outputs && counts_ok b.mode b.count b.place b.steps b.deviations)

-- every field 0 or not loaded
unfoldable pub empty_board : Board
empty_board =
    record { loaded = false; mode = 0; inputs = 0; outputs = 0; count = 0; place = 0; steps = 0; deviations = 0 }

-- the board with its table's run at another point
unfoldable pub run_at : Board → ℕ → ℕ → ℕ → Board
run_at b place steps deviations =
    record {
      loaded = b.loaded;
      mode = b.mode;
      inputs = b.inputs;
      outputs = b.outputs;
      count = b.count;
      place = place;
      steps = steps;
      deviations = deviations;
    }

-- what a rewind or unload answers, and what it hands back
abbrev pub Change : Type 0
Change = Result (Unit {0}) ChangeRefusal

abbrev pub Changing : Type 0
Changing = Answered Change

unfoldable pub rewind_on : Board → Changing
rewind_on b = cond (live b) (record { board = run_at b 0 0 0; answer = Ok tt }) (record { board = b; answer = Err Empty })

unfoldable pub unload_on : Board → Changing
unload_on b = cond (live b) (record { board = empty_board; answer = Ok tt }) (record { board = b; answer = Err Empty })

-- document 01's number of an answer, 0 for no refusal; the answer has no other figure
abbrev pub change_number : Change → ℕ
change_number (Ok done) = 0
change_number (Err Empty) = 20

-- the number that is due
unfoldable pub change_refusal : Board → ℕ
change_refusal b = cond (live b) 0 20

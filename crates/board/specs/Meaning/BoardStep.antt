-- A step of the board (document 01, 'The board'; 02): what it looks at, and what it hands back.
-- Assumes nothing.
use Rattle.std.specs.Prelude.{Bool, cond, ◌&&◌, List, ℕ, ◌+◌, ◌-◌, ◌^◌, ltb, leb, eqb, length, Result, Ok, Err}
use Rattle.records.specs.Meaning.Limits.{max_steps}
use Rattle.guard_table.specs.Meaning.GuardTable.{length_in, shows_kind, kind_of, output_in, next_in}
use Rattle.game.specs.Meaning.Proposal.{deviates}
use Rattle.board.specs.Meaning.Board.{live, run_at}
use Rattle.guard_table.specs.Meaning.Loadable.{entry_ok}
use Rattle.board.specs.declared.Board.{Board}
use Rattle.board.specs.declared.answers.Answered.{Answered}
use Rattle.board.specs.declared.answers.StepRefusal.{StepRefusal}
use Rattle.board.specs.declared.answers.StepRefusal.TheVariants.{Empty, Spent, BadInput, BadTable}

-- the site lines of a shield's board: its inputs that are not the proposal's
abbrev pub site_of : Board → ℕ
site_of b = b.inputs - b.outputs

-- the slice shows its rows' kind, and is as long as the board's table in rows of that kind, which is not held against the count
unfoldable pub length_fits : Board → List ℕ → Bool
length_fits b t = shows_kind t && eqb (length t) (length_in (kind_of t) b.inputs b.count)

-- and the entry of the board's place at the input is in range
unfoldable pub entry_fits : Board → List ℕ → ℕ → Bool
entry_fits b t input =
    length_fits b t
    && entry_ok (output_in t b.inputs b.place input) (next_in t b.inputs b.place input) b.outputs b.count

-- what a step answers, and what it hands back
abbrev pub Step : Type 0
Step = Result ℕ StepRefusal

abbrev pub Stepping : Type 0
Stepping = Answered Step

-- a step with this output to this next state
unfoldable pub board_moved : Board → ℕ → ℕ → ℕ → Stepping
board_moved b input output next =
    record {
      board = run_at b next (b.steps + 1) (b.deviations + cond (deviates b.mode (site_of b) input output) 1 0);
      answer = Ok output;
    }

-- a step of a live board that has steps left, at an input in range
unfoldable pub looked_up : Board → List ℕ → ℕ → Stepping
looked_up b t input =
    cond (entry_fits b t input) (board_moved b input (output_in t b.inputs b.place input) (next_in t b.inputs b.place input))
    (record { board = b; answer = Err BadTable })

unfoldable pub step_on : Board → List ℕ → ℕ → Stepping
step_on b t input =
    cond (live b)
    (cond (leb max_steps b.steps) (record { board = b; answer = Err Spent })
    (cond (ltb input (2 ^ b.inputs)) (looked_up b t input) (record { board = b; answer = Err BadInput })))
    (record { board = b; answer = Err Empty })

-- document 01's number of an answer, 0 for no refusal
abbrev pub step_number : Step → ℕ
step_number (Ok o) = 0
step_number (Err Empty) = 20
step_number (Err Spent) = 22
step_number (Err BadInput) = 12
step_number (Err BadTable) = 11

-- document 01's output of an answer, 0 on a refusal
abbrev pub step_output : Step → ℕ
step_output (Ok o) = o
step_output (Err refusal) = 0

-- the number that is due: 20, 22, 12, then 11
unfoldable pub step_refusal : Board → List ℕ → ℕ → ℕ
step_refusal b t input =
    cond (live b) (cond (leb max_steps b.steps) 22 (cond (ltb input (2 ^ b.inputs)) (cond (entry_fits b t input) 0 11) 12)) 20

-- the output that is due: the entry's, 0 on a refusal
unfoldable pub step_given : Board → List ℕ → ℕ → ℕ
step_given b t input = cond (eqb (step_refusal b t input) 0) (output_in t b.inputs b.place input) 0

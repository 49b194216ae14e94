-- Lists of calls on a board, how they were answered, and the count of deviations that demand 2 asks for.
-- Assumes nothing.
use Rattle.std.specs.Prelude.{◌≡◌, true, false, cond, List, [], ◌∷◌, ℕ, eqb}
use Rattle.game.specs.Meaning.History.{Step}
use Rattle.game.specs.Meaning.Book.{Call, load, step, rewind, unload, Answer, deviations}
use Rattle.board.specs.Meaning.Board.{live}
use Rattle.board.specs.Meaning.BoardStep.{site_of}
use Rattle.board.specs.Meaning.Calls.{board_after, says}
use Rattle.board.specs.declared.Board.{Board}

-- a call, and how it was answered
pub record Event : Type 0 where
  pub call : Call (List ℕ)
  pub answer : Answer

-- a list of calls, the latest first, each given the board that the one before handed back: the last board, and the events
abbrev pub last : Board → List (Call (List ℕ)) → Board
last b [] = b
last b (c ∷ cs) = board_after (last b cs) c

abbrev pub history : Board → List (Call (List ℕ)) → List Event
history b [] = []
history b (c ∷ cs) = record { call = c; answer = says (last b cs) c } ∷ history b cs

-- ---- the count of deviations, by the answers alone

-- the run after a call that was not refused, with this output
abbrev pub extended : List Step → Call (List ℕ) → ℕ → List Step
extended run (load t) o = []
extended run (step t i) o = record { input = i; output = o } ∷ run
extended run rewind o = []
extended run unload o = run

-- the steps since the last load or rewind; a call that was refused counts for nothing
abbrev pub run_of : List Event → List Step
run_of [] = []
run_of (e ∷ es) = cond (eqb e.answer.number 0) (extended (run_of es) e.call e.answer.output) (run_of es)

-- a live board shows the deviations of that run
abbrev pub Counts : Board → List Event → Type 0
Counts b es = live b ≡ true → b.deviations ≡ deviations b.mode (site_of b) (run_of es)

-- a call that was answered so, on a board that any list of calls led to from any board that counts as empty, hands back a
-- board that counts
abbrev pub KeepsCount : Board → Call (List ℕ) → Answer → Board → Type 0
KeepsCount b c a r =
    (b₀ : Board) (cs : List (Call (List ℕ))) → live b₀ ≡ false → last b₀ cs ≡ b
    → Counts r (record { call = c; answer = a } ∷ history b₀ cs)

-- What each call promises: the same as the call below it, of the same arguments, by number and bytes.
-- Assumes nothing.
use Rattle.std.specs.Prelude.{◌≡◌, List, [], ◌∷◌, ℕ, Result}
use Rattle.game.specs.Meaning.Book.{Call, load, step, rewind, unload}
use Rattle.board.specs.Promises.Board.{LoadPromise, StepPromise, RewindPromise, UnloadPromise}
use Rattle.solve.specs.Meaning.Made.{made_number, made_length, made_states}
use Rattle.sheet.specs.declared.layout.Refusal.{Refusal}
use Rattle.solve.specs.declared.made.Made.{Made}
use Rattle.board_bytes.specs.Meaning.BoardBytes.{board_in}
use Rattle.board_bytes.specs.Meaning.ByteCalls.{bytes_say, bytes_on, in_one}

-- ---- boards

-- the call c on the bytes `before` answers r and leaves `after`: as the call on the board that they stand for, and with all that this
-- one promises of its result
pub record Calls {A : Type 0} (promise : A → Type 0) (c : Call (List ℕ)) (before : List ℕ) (r : ℕ) (after : List ℕ) : Type 0 where
  pub result : A
  pub promised : promise result
  pub answer : r ≡ in_one (bytes_say before c)
  pub bytes : after ≡ bytes_on before c

abbrev pub LoadCall : List ℕ → List ℕ → ℕ → List ℕ → Type 0
LoadCall before t = Calls (LoadPromise (board_in before) t) (load t) before

abbrev pub StepCall : List ℕ → List ℕ → ℕ → ℕ → List ℕ → Type 0
StepCall before t input = Calls (StepPromise (board_in before) t input) (step t input) before

abbrev pub RewindCall : List ℕ → ℕ → List ℕ → Type 0
RewindCall before = Calls (RewindPromise (board_in before)) rewind before

abbrev pub UnloadCall : List ℕ → ℕ → List ℕ → Type 0
UnloadCall before = Calls (UnloadPromise (board_in before)) unload before

-- ---- makers

-- the figures of an answer: the table's length and states, 0 on a refusal
abbrev pub figures_of : {E : Type 0} → Result Made E → List ℕ
figures_of answer = made_length answer ∷ made_states answer ∷ []

-- an answer as the maker promises it, reported by its number and figures
pub record Reports (promise : Result Made Refusal → Type 0) (r : ℕ) (reported : List ℕ) : Type 0 where
  pub made : Result Made Refusal
  pub promised : promise made
  pub number : r ≡ made_number made
  pub figures : reported ≡ figures_of made

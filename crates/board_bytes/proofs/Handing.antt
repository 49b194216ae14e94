-- How a board call's answer becomes the promise of the call over bytes: the board read, the call below, and the bytes written
-- where its number is 0.
-- Assumes nothing.
use mathlib.Core.Path.{◌≡◌, refl, ap, ap₂, subst, ◌∙◌}
use mathlib.Core.List.{List}
use Prim.Native.Nat.{ℕ, ◌+◌, ◌*◌}
use native.Mathlib.Omega.{arith}
use Rattle.std.specs.Prelude.{Ok, Err}
use Rattle.std.specs.Result.{result_unwrap_or}
use Rattle.records.specs.Meaning.Answers.{number_in}
use Rattle.game.specs.Meaning.Book.{Call, load, step, rewind, unload, Answer}
use Rattle.board.specs.Meaning.Board.{Change, Changing, change_number, rewind_on, unload_on}
use Rattle.board.specs.Meaning.Load.{Load, Loading, load_on, load_number}
use Rattle.board.specs.Meaning.BoardStep.{Step, Stepping, step_on, step_number, step_output}
use Rattle.board.specs.Meaning.Calls.{load_says, step_says, change_says, board_after, says}
use Rattle.board.specs.Promises.Board.{LoadPromise, StepPromise, RewindPromise, UnloadPromise}
use Rattle.board.specs.declared.Board.{Board}
use Rattle.board.specs.declared.answers.LoadRefusal.{LoadRefusal}
use Rattle.board.specs.declared.answers.StepRefusal.{StepRefusal}
use Rattle.board.specs.declared.answers.ChangeRefusal.{ChangeRefusal}
use Rattle.board_bytes.specs.Meaning.BoardBytes.{board_in}
use Rattle.board_bytes.specs.Meaning.ByteCalls.{bytes_after, in_one}
use Rattle.board_bytes.specs.Promises.ByteCalls.{Calls, LoadCall, StepCall, RewindCall, UnloadCall}

-- the numbers as the code works them out, ground by ground
abbrev pub load_ground : LoadRefusal → ℕ
load_ground cause = load_number (Err cause)

abbrev pub step_ground : StepRefusal → ℕ
step_ground cause = step_number (Err cause)

abbrev pub change_ground : ChangeRefusal → ℕ
change_ground cause = change_number (Err cause)

load_told : (r : Load) → number_in load_ground r ≡ load_number r
load_told (Ok x) = refl
load_told (Err cause) = refl

step_told : (r : Step) → number_in step_ground r ≡ step_number r
step_told (Ok x) = refl
step_told (Err cause) = refl

output_told : (r : Step) → result_unwrap_or r 0 ≡ step_output r
output_told (Ok x) = refl
output_told (Err cause) = refl

change_told : (r : Change) → number_in change_ground r ≡ change_number r
change_told (Ok x) = refl
change_told (Err cause) = refl

-- a call whose result is x: what it answers, and the board that it hands back
module _
    {A : Type 0} (c : Call (List ℕ)) (promise : Board → A → Type 0) (on : Board → A) (answer : A → Answer) (board : A → Board)
    (whole : (b : Board) (x : A) → promise b x → x ≡ on b) (said : (b : Board) → answer (on b) ≡ says b c)
    (left : (b : Board) → board (on b) ≡ board_after b c)
  where
    -- b is the board that was read, n the number and r the answer that the code worked out
    pub calls : (before after : List ℕ) (b : Board) (x : A) (n r : ℕ) → b ≡ board_in before → promise b x → n ≡ (answer x).number
        → r ≡ in_one (answer x) → after ≡ bytes_after before n (board x) → Calls (promise (board_in before)) c before r after
    calls before after b x n r e p q a h =
        let promised = subst (λ (y : Board). promise y x) e p in
        let same = whole (board_in before) x promised in
        let says_so = ap answer same ∙ said (board_in before) in
        record {
          result = x;
          promised = promised;
          answer = a ∙ ap in_one says_so;
          bytes = h ∙ ap₂ (bytes_after before) (q ∙ ap (λ (y : Answer). y.number) says_so) (ap board same ∙ left (board_in before));
        }

module _ (before t after : List ℕ) where
  pub loads : (b : Board) (x : Loading) (n : ℕ) → b ≡ board_in before → LoadPromise b t x → n ≡ number_in load_ground x.answer
      → after ≡ bytes_after before (number_in load_ground x.answer) x.board → LoadCall before t n after
  loads b x n e p q h =
      calls (load t) (λ y. LoadPromise y t) (λ y. load_on y t) load_says (λ y. y.board) (λ y z w. w.whole) (λ y. refl) (λ y. refl) before
      after b x n n e p (q ∙ load_told x.answer) (omega (arith, q, load_told x.answer)) (rw (← q) at h)

  pub steps : (i : ℕ) (b : Board) (x : Stepping) (n o r : ℕ) → b ≡ board_in before → StepPromise b t i x
      → n ≡ number_in step_ground x.answer → o ≡ result_unwrap_or x.answer 0 → r ≡ n + 65536 * o
      → after ≡ bytes_after before (number_in step_ground x.answer) x.board → StepCall before t i r after
  steps i b x n o r e p q u a h =
      calls (step t i) (λ y. StepPromise y t i) (λ y. step_on y t i) step_says (λ y. y.board) (λ y z w. w.whole) (λ y. refl) (λ y. refl)
      before after b x n r e p (q ∙ step_told x.answer)
      (a ∙ ap₂ (λ (k l : ℕ). k + 65536 * l) (q ∙ step_told x.answer) (u ∙ output_told x.answer)) (rw (← q) at h)

module _ (before after : List ℕ) where
  pub rewinds : (b : Board) (x : Changing) (n : ℕ) → b ≡ board_in before → RewindPromise b x → n ≡ number_in change_ground x.answer
      → after ≡ bytes_after before (number_in change_ground x.answer) x.board → RewindCall before n after
  rewinds b x n e p q h =
      calls rewind RewindPromise rewind_on change_says (λ y. y.board) (λ y z w. w.whole) (λ y. refl) (λ y. refl) before after b x n n e p
      (q ∙ change_told x.answer) (omega (arith, q, change_told x.answer)) (rw (← q) at h)

  pub unloads : (b : Board) (x : Changing) (n : ℕ) → b ≡ board_in before → UnloadPromise b x → n ≡ number_in change_ground x.answer
      → after ≡ bytes_after before (number_in change_ground x.answer) x.board → UnloadCall before n after
  unloads b x n e p q h =
      calls unload UnloadPromise unload_on change_says (λ y. y.board) (λ y z w. w.whole) (λ y. refl) (λ y. refl) before after b x n n e p
      (q ∙ change_told x.answer) (omega (arith, q, change_told x.answer)) (rw (← q) at h)

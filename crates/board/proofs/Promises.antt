-- From the whole result of a call to all that it promises.
-- Assumes nothing.
use mathlib.Core.Path.{◌≡◌, refl}
use mathlib.Core.Bool.{Bool, true, false, cond}
use mathlib.Core.List.{List}
use Prim.Native.Nat.{ℕ, ◌^◌}
use lib.Dec.{leb, ltb, eqb}
use Rattle.records.specs.Laws.Tests.{by_test}
use Rattle.records.specs.Meaning.Limits.{max_steps}
use Rattle.board.specs.Meaning.Board.{live, empty_board, Changing, rewind_on, unload_on, change_number, change_refusal}
use Rattle.guard_table.specs.Meaning.GuardTable.{output_in}
use Rattle.guard_table.specs.Meaning.Loadable.{loadable}
use Rattle.board.specs.Meaning.Load.{Loading, load_on, load_number, load_refusal}
use Rattle.board.specs.Meaning.BoardStep.{Stepping, entry_fits, board_moved, looked_up, step_on, step_number, step_output, step_refusal, step_given}
use Rattle.game.specs.Meaning.Book.{load, step, rewind, unload}
use Rattle.board.specs.Laws.Calls.{empty_board_lem}
use Rattle.board.proofs.Counting.{counted, keeps-count}
use Rattle.board.specs.Promises.Board.{EmptyPromise, LoadPromise, StepPromise, RewindPromise, UnloadPromise}
use Rattle.board.specs.declared.Board.{Board}

pub empty_promise : (r : Board) → r ≡ empty_board → EmptyPromise r
empty_promise r e = record { whole = e; counted = rw e (counted empty_board empty_board_lem) }

-- the numbers that are due, by the tests that the definitions go by
load_number_lem : (b : Board) (t : List ℕ) → load_number (load_on b t).answer ≡ load_refusal b t
unfolding load_on load_refusal
load_number_lem b t =
    by_test (live b) (λ p. simp p) (λ p. by_test (loadable t) (λ q. simp (p, q)) (λ q. simp (p, q)))

rewind_number : (b : Board) → change_number (rewind_on b).answer ≡ change_refusal b
unfolding rewind_on change_refusal
rewind_number b = by_test (live b) (λ p. simp p) (λ p. simp p)

unload_number : (b : Board) → change_number (unload_on b).answer ≡ change_refusal b
unfolding unload_on change_refusal
unload_number b = by_test (live b) (λ p. simp p) (λ p. simp p)

-- a step: is the board live, has it steps left, is the input in range, does the entry fit?
by_tests : (P : Type 0) (b : Board) (t : List ℕ) (i : ℕ)
    → (live b ≡ false → P)
    → (live b ≡ true → leb max_steps b.steps ≡ true → P)
    → (live b ≡ true → leb max_steps b.steps ≡ false → ltb i (2 ^ b.inputs) ≡ false → P)
    → (live b ≡ true → leb max_steps b.steps ≡ false → ltb i (2 ^ b.inputs) ≡ true → (f : Bool) → entry_fits b t i ≡ f → P)
    → P
by_tests P b t i f g h k =
    by_test (live b)
    (λ p. by_test (leb max_steps b.steps) (g p) (λ q. by_test (ltb i (2 ^ b.inputs)) (λ r. k p q r (entry_fits b t i) refl) (h p q))) f

step_number_lem : (b : Board) (t : List ℕ) (i : ℕ) → step_number (step_on b t i).answer ≡ step_refusal b t i
unfolding step_on looked_up board_moved step_refusal
step_number_lem b t i =
    by_tests _ b t i (λ p. simp p) (λ p q. simp (p, q)) (λ p q r. simp (p, q, r)) (λ p q r f s. simp (p, q, r) (fits f s))
  where
    fits : (f : Bool) → entry_fits b t i ≡ f → step_number (looked_up b t i).answer ≡ cond (entry_fits b t i) 0 11
    fits true s = simp s
    fits false s = simp s

step_output_lem : (b : Board) (t : List ℕ) (i : ℕ) → step_output (step_on b t i).answer ≡ step_given b t i
unfolding step_on looked_up board_moved step_refusal step_given
step_output_lem b t i =
    by_tests _ b t i (λ p. simp p) (λ p q. simp (p, q)) (λ p q r. simp (p, q, r)) (λ p q r f s. simp (p, q, r) (fits f s))
  where
    fits : (f : Bool) → entry_fits b t i ≡ f
        → step_output (looked_up b t i).answer ≡ cond (eqb (cond (entry_fits b t i) 0 11) 0) (output_in t b.inputs b.place i) 0
    fits true s = simp s
    fits false s = simp s

pub load_promise : (b : Board) (t : List ℕ) (r : Loading) → r ≡ load_on b t → LoadPromise b t r
load_promise b t r e = record { whole = e; number = rw e (load_number_lem b t); counted = rw e (keeps-count b (load t)) }

pub step_promise : (b : Board) (t : List ℕ) (i : ℕ) (r : Stepping) → r ≡ step_on b t i → StepPromise b t i r
step_promise b t i r e =
    record { whole = e; number = rw e (step_number_lem b t i); output = rw e (step_output_lem b t i); counted = rw e (keeps-count b (step t i)) }

pub rewind_promise : (b : Board) (r : Changing) → r ≡ rewind_on b → RewindPromise b r
rewind_promise b r e = record { whole = e; number = rw e (rewind_number b); counted = rw e (keeps-count b rewind) }

pub unload_promise : (b : Board) (r : Changing) → r ≡ unload_on b → UnloadPromise b r
unload_promise b r e = record { whole = e; number = rw e (unload_number b); counted = rw e (keeps-count b unload) }

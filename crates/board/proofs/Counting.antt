-- A board counts its deviations (demand 2's last sentence): over every list of calls with any slices and inputs, from any
-- board that counts as empty.
-- Assumes nothing.
use mathlib.Core.Path.{◌≡◌, refl, sym, subst}
use mathlib.Core.Bool.{true, false}
use mathlib.Core.List.{List, [], ◌∷◌}
use Prim.Native.Nat.{ℕ}
use lib.Dec.{eqb}
use Rattle.records.specs.Laws.Tests.{both_ways, by_test}
use Rattle.game.specs.Meaning.Book.{Call, load, step, rewind, unload, Answer}
use Rattle.board.specs.Meaning.Board.{live, empty_board, run_at, Changing}
use Rattle.guard_table.specs.Meaning.GuardTable.{output_in, next_in}
use Rattle.guard_table.specs.Meaning.Loadable.{loadable}
use Rattle.board.specs.Meaning.Load.{board_of, Loading}
use Rattle.board.specs.Meaning.BoardStep.{board_moved, Stepping}
use Rattle.board.specs.Meaning.Calls.{load_says, step_says, change_says, board_after, says}
use Rattle.board.specs.Meaning.Deviations.{Event, last, history, Counts, KeepsCount}
use Rattle.board.specs.Laws.Calls.{empty_board_lem, load_empty, load_bad, step_empty, rewind_empty, unload_empty, load_occupied, rewind_live, unload_live, step_case, refused, taken}
use Rattle.board.specs.declared.Board.{Board}

-- an event more
abbrev with : List Event → Call (List ℕ) → Answer → List Event
with es c a = record { call = c; answer = a } ∷ es

-- a board that counts as empty has nothing to show
idle : (b : Board) (es : List Event) → live b ≡ false → Counts b es
idle b es e = λ l. both_ways l e

-- a refusal changes nothing
pass : (b : Board) (es : List Event) (c : Call (List ℕ)) (a : Answer) → eqb a.number 0 ≡ false → Counts b es → Counts b (with es c a)
pass b es c a n h = λ l. rw n (h l)

-- a step that is taken counts its output
count_taken : (b : Board) (t : List ℕ) (i o n : ℕ) (es : List Event) → live b ≡ true → Counts b es
    → Counts (board_moved b i o n).board (with es (step t i) (step_says (board_moved b i o n)))
unfolding board_moved run_at
count_taken b t i o n es e h = λ l. rw (h e)

loaded_zero : (t : List ℕ) → (board_of t).deviations ≡ 0
unfolding board_of
loaded_zero t = refl

rewound_zero : (b : Board) → (run_at b 0 0 0).deviations ≡ 0
unfolding run_at
rewound_zero b = refl

-- each call keeps the count
counts_on : (b : Board) (c : Call (List ℕ)) (es : List Event) → Counts b es → Counts (board_after b c) (with es c (says b c))
counts_on b (load t) es h =
    let Kept : Loading → Type 0 = λ r. Counts r.board (with es (load t) (load_says r)) in
    by_test (live b) (λ e. subst Kept (sym (load_occupied b e t)) h)
    (λ e. by_test (loadable t) (λ l. subst Kept (sym (load_empty b e t l)) (λ y. loaded_zero t))
    (λ l. subst Kept (sym (load_bad b e t l)) h))
counts_on b (step t i) es h =
    let Kept : Stepping → Type 0 = λ r. Counts r.board (with es (step t i) (step_says r)) in
    by_test (live b)
    (λ e. elim (step_case b e t i) [
      | refused a n q ↦ subst Kept (sym q) (pass b es (step t i) (step_says (record { board = b; answer = a })) n h)
      | taken s f q ↦
          subst Kept (sym q) (count_taken b t i (output_in t b.inputs b.place i) (next_in t b.inputs b.place i) es e h)
    ])
    (λ e. subst Kept (sym (step_empty b e t i)) h)
counts_on b rewind es h =
    let Kept : Changing → Type 0 = λ r. Counts r.board (with es rewind (change_says r)) in
    by_test (live b) (λ e. subst Kept (sym (rewind_live b e)) (λ y. rewound_zero b))
    (λ e. subst Kept (sym (rewind_empty b e)) h)
counts_on b unload es h =
    let Kept : Changing → Type 0 = λ r. Counts r.board (with es unload (change_says r)) in
    by_test (live b) (λ e. subst Kept (sym (unload_live b e)) (idle empty_board es empty_board_lem))
    (λ e. subst Kept (sym (unload_empty b e)) h)

-- over every list of calls
pub counted : (b : Board) → live b ≡ false → (cs : List (Call (List ℕ))) → Counts (last b cs) (history b cs)
counted b e [] = idle b [] e
counted b e (c ∷ cs) = counts_on (last b cs) c (history b cs) (counted b e cs)

-- as each call promises it
pub keeps-count : (b : Board) (c : Call (List ℕ)) → KeepsCount b c (says b c) (board_after b c)
keeps-count b c b₀ cs e q = counts_on b c (history b₀ cs) (subst (λ (x : Board). Counts x (history b₀ cs)) q (counted b₀ e cs))

-- What showing how a break is forced promises: refusals by their numbers in their order, and what the bytes say of each product state.
-- Assumes nothing.
use Rattle.std.specs.Prelude.{◌≡◌, ◌↔◌, true, List, [], ◌++◌, ℕ, ◌^◌, ◌≤◌, ◌<◌, length, get_or, take, drop, Result}
use Rattle.records.specs.Meaning.Limits.{max_states, max_outs}
use Rattle.records.specs.Meaning.Work.{Slice, long_enough, asked_bytes}
use Rattle.sheet.specs.Meaning.Decoded.{Decoded}
use Rattle.product.specs.Meaning.Step.{outputs_of, broken, BrokenBy, first_tuple}
use Rattle.product.specs.Meaning.States.{ProductStates}
use Rattle.product.specs.Model.ProductNumbering.{state_count}
use Rattle.forced_rows.specs.Meaning.ForcedBytes.{forced_answer, forced_length, no_breaker}
use Rattle.solve.specs.Meaning.Allowed.{Kept, Lost, TooMany, Unrealizable, IsSheet}
use Rattle.solve.specs.Promises.RefusalOrder.{InOrder}
use Rattle.solve.specs.Promises.OpeningWork.{opening_work, work_most}
use Rattle.forced.specs.Meaning.Answer.{play_number, play_length, play_states}
use Rattle.forced.specs.Meaning.Play.{ForcedFrom, HoldsOut, Realizable}
use Rattle.forced.specs.Model.ForcedOfSheet.{forced_of, Plays}
use Rattle.solve.specs.declared.made.Made.{Made}
use Rattle.forced.specs.declared.answer.Ground.{Ground}

-- ---- work memory

-- for n product states, and for as many as there may be
abbrev pub forced_work_for : ℕ → List Slice
forced_work_for n = opening_work n []

abbrev pub forced_work : List Slice
forced_work = forced_work_for max_states

-- ---- what the bytes say

-- a row of bytes for each of n product states, in the order of their numbers
pub record ShowsPlay (d : Decoded) (n : ℕ) (bytes : List ℕ) : Type 0 where
  -- the product states, as first met
  pub tuples : List (List ℕ)
  pub count : length tuples ≡ n
  pub numbered : ProductStates d tuples
  -- the bytes: the number of steps and the input of state k, and the monitor at each output
  pub steps : ℕ → ℕ
  pub input : ℕ → ℕ
  pub monitor : ℕ → ℕ → ℕ
  pub bytes_are : bytes ≡ forced_answer (outputs_of d) n steps input monitor
  pub size : length bytes ≡ forced_length (outputs_of d) n
  -- no more steps than product states, so that two bytes hold them, and one the input and each monitor
  pub steps_most : (k : ℕ) → k < n → steps k ≤ n
  pub two_bytes : (k : ℕ) → k < n → steps k < 2 ^ 16
  pub one_byte : (k : ℕ) → k < n → input k < 2 ^ 8
  pub monitor_byte : (k o : ℕ) → k < n → o < outputs_of d → monitor k o < 2 ^ 8
  -- no steps exactly if every number of inputs is survived from it; then the input is 0, and one way of answering holds out for ever
  pub kept_is : (k : ℕ) → k < n → (steps k ≡ 0) ↔ Kept d (get_or tuples k (first_tuple d))
  pub kept_input : (k : ℕ) → k < n → Kept d (get_or tuples k (first_tuple d)) → input k ≡ 0
  pub holds_out : (k : ℕ) → k < n → Kept d (get_or tuples k (first_tuple d)) → HoldsOut d (get_or tuples k (first_tuple d))
  -- some steps exactly if some number of inputs is not; then a break is forced in so many and not in fewer, and the input is the
  -- lowest that does so
  pub lost_is : (k : ℕ) → k < n → (0 < steps k) ↔ Lost d (get_or tuples k (first_tuple d))
  pub forced : (k : ℕ) → k < n → Lost d (get_or tuples k (first_tuple d)) → ForcedFrom d (get_or tuples k (first_tuple d)) (steps k) (input k)
  -- one step from the end, the byte of an output is j exactly if its step at that input is broken by monitor j; elsewhere no monitor
  -- is named
  pub named : (k o : ℕ) → k < n → o < outputs_of d → steps k ≡ 1
      → (j : ℕ) → (monitor k o ≡ j) ↔ BrokenBy d (get_or tuples k (first_tuple d)) (input k) o j
  pub unnamed : (k o : ℕ) → k < n → o < outputs_of d → (steps k ≡ 1 → ⊥) → monitor k o ≡ no_breaker

-- ---- the promise: `before` and `after` are the result memory, `lent` the lengths of the work memory

-- what was written: the answer, then what the result held before, and its figures
pub record Played (d : Decoded) (before : List ℕ) (r : Result Made Ground) (after : List ℕ) : Type 0 where
  pub size : play_length r ≡ length (forced_of d)
  pub most : play_length r ≤ forced_length max_outs max_states
  pub states : play_states r ≡ state_count d
  pub bytes : after ≡ forced_of d ++ drop (length (forced_of d)) before
  -- of the bytes that were written
  pub shows : ShowsPlay d (play_states r) (take (play_length r) after)

-- a refusal: every figure is 0, and the result is as it was
pub record Unplayed (before : List ℕ) (r : Result Made Ground) (after : List ℕ) : Type 0 where
  pub size : play_length r ≡ 0
  pub states : play_states r ≡ 0
  pub bytes : after ≡ before

pub record MakesForced (s before lent : List ℕ) (r : Result Made Ground) (after : List ℕ) : Type 0 where
  pub plays : Plays (long_enough forced_work lent) s before r after
  -- 10, 1 to 6, 7, then 23 in the place of 8 exactly if the sheet is realizable, then 9 exactly if the result is shorter than the answer
  pub ordered :
      InOrder 23 Realizable Unrealizable (λ d. length (forced_of d)) (long_enough forced_work lent) s (length before) (play_number r)
  pub never_eight : play_number r ≡ 8 → ⊥
  pub played : play_number r ≡ 0 → (d : Decoded) → IsSheet s d → Played d before r after
  pub unplayed : (play_number r ≡ 0 → ⊥) → Unplayed before r after
  -- of the answer of every sheet in bounds whose states are not too many, also where it is refused
  pub shows : (d : Decoded) → IsSheet s d → (TooMany d → ⊥) → ShowsPlay d (state_count d) (forced_of d)
  -- which no other bytes say
  pub only : (d : Decoded) → IsSheet s d → (TooMany d → ⊥) → (n : ℕ) (bytes : List ℕ) → ShowsPlay d n bytes → bytes ≡ forced_of d
  -- every broken step, and no other, is broken by a monitor
  pub broken_by : (d : Decoded) (t : List ℕ) (i o : ℕ) → (broken d t i o ≡ true) ↔ ((j : ℕ) × BrokenBy d t i o j)
  -- the bytes of work memory that the constants ask for
  pub work_bytes : asked_bytes forced_work ≤ work_most

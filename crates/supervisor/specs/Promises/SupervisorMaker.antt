-- What making a supervisor table promises: what every maker does, and demand 2 of the bytes.
-- Assumes nothing.
use Rattle.std.specs.Prelude.{◌≡◌, ◌↔◌, List, [], ℕ, ◌+◌, ◌*◌, ◌^◌, ◌≤◌, ◌<◌, length, get_or, take, Result}
use Rattle.records.specs.Meaning.Bits.{bit_at}
use Rattle.records.specs.Meaning.Limits.{max_states}
use Rattle.records.specs.Meaning.Work.{Slice, long_enough, asked_bytes}
use Rattle.sheet.specs.Meaning.Decoded.{Decoded, input_lines}
use Rattle.product.specs.Meaning.Step.{inputs_of, advance, first_tuple}
use Rattle.product.specs.Meaning.States.{ProductStates}
use Rattle.product.specs.Model.ProductNumbering.{state_count}
use Rattle.game.specs.Meaning.History.{Step, reached, Permitted}
use Rattle.supervisor_table.specs.Meaning.SupervisorTable.{mask_table}
use Rattle.solve.specs.Meaning.Allowed.{Kept, Lost, Allowed, Accepted, AllowedAfter, MaximallyPermissive}
use Rattle.supervisor.specs.Model.SupervisorOfSheet.{supervisor_table}
use Rattle.solve.specs.Meaning.Made.{made_number, made_length, made_states}
use Rattle.solve.specs.Promises.Making.{Makes}
use Rattle.solve.specs.Promises.OpeningWork.{opening_work, work_most}
use Rattle.sheet.specs.declared.layout.Refusal.{Refusal}
use Rattle.solve.specs.declared.made.Made.{Made}

-- ---- work memory

-- for n product states, and for as many as there may be
abbrev pub supervisor_work_for : ℕ → List Slice
supervisor_work_for n = opening_work n []

abbrev pub supervisor_work : List Slice
supervisor_work = supervisor_work_for max_states

-- ---- demand 2, of a table's bytes

-- the table has n records, one for each product state in the order of their numbers
pub record Means (d : Decoded) (n : ℕ) (table : List ℕ) : Type 0 where
  -- the product states, as first met
  pub tuples : List (List ℕ)
  pub count : length tuples ≡ n
  pub numbered : ProductStates d tuples
  -- the bytes: record k says whether state k is kept, and has its mask for each input
  pub kept : ℕ → ℕ
  pub mask : ℕ → ℕ → ℕ
  pub bytes : table ≡ mask_table d.mode (input_lines d) d.outputs n kept mask
  pub size : length table ≡ 9 + n * (5 + inputs_of d)
  -- 1 exactly if every number of inputs is survived from it, else 0
  pub flag : (k : ℕ) → k < n → kept k ≤ 1
  pub kept_is : (k : ℕ) → k < n → (kept k ≡ 1) ↔ Kept d (get_or tuples k (first_tuple d))
  pub lost_is : (k : ℕ) → k < n → (kept k ≡ 0) ↔ Lost d (get_or tuples k (first_tuple d))
  -- in a kept state, bit o of the mask of input i is 1 exactly if o is allowed; in any other the mask is 0
  pub mask_byte : (k i : ℕ) → k < n → i < inputs_of d → mask k i < 2 ^ 8
  pub mask_is : (k : ℕ) → k < n → Kept d (get_or tuples k (first_tuple d)) → (i o : ℕ) → i < inputs_of d → o < 8
      → (bit_at (mask k i) o ≡ 1) ↔ Allowed d (get_or tuples k (first_tuple d)) i o
  pub mask_none : (k : ℕ) → k < n → Lost d (get_or tuples k (first_tuple d)) → (i : ℕ) → i < inputs_of d → mask k i ≡ 0
  -- after every history of allowed steps, at the state reached, bit o of the mask of input i is 1 exactly if o is allowed
  pub after_history : (h : List Step) → Permitted (inputs_of d) (AllowedAfter d) h
      → (k : ℕ) × (k < n) × (get_or tuples k (first_tuple d) ≡ reached (List ℕ) (advance d) (first_tuple d) h)
      × ((i o : ℕ) → i < inputs_of d → o < 8 → (bit_at (mask k i) o ≡ 1) ↔ AllowedAfter d h i o)
  -- the allowed outputs are those of the maximally permissive supervisor
  pub permissive : MaximallyPermissive d

-- ---- the promise: `before` and `after` are the result memory, `lent` the lengths of the work memory

pub record MakesSupervisor (s before lent : List ℕ) (r : Result Made Refusal) (after : List ℕ) : Type 0 where
  pub makes : Makes supervisor_table state_count (long_enough supervisor_work lent) s before r after
  -- of the table of every accepted sheet, also where the result is too short for it
  pub means : (d : Decoded) → Accepted s d → Means d (state_count d) (supervisor_table d)
  -- which no other bytes mean
  pub only : (d : Decoded) → Accepted s d → (n : ℕ) (table : List ℕ) → Means d n table → table ≡ supervisor_table d
  -- of the bytes that were written
  pub written : made_number r ≡ 0 → (d : Decoded) → Accepted s d → Means d (made_states r) (take (made_length r) after)
  -- the bytes of work memory that the constants ask for
  pub work_bytes : asked_bytes supervisor_work ≤ work_most

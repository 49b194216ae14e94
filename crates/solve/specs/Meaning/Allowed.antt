-- What is allowed, kept, too large and unrealizable, for a sheet (documents 00 and 01): demand 2's words over the meaning
-- of a step alone. Nothing here speaks of tables, numbers of states or rounds.
-- Assumes nothing.
use Rattle.std.specs.Prelude.{◌≡◌, Bool, true, List, [], ℕ, suc, ◌<◌, length, get_or}
use Rattle.records.specs.Meaning.Limits.{max_states}
use Rattle.sheet.specs.Meaning.Decoded.{Decoded, SheetOk, encode}
use Rattle.product.specs.Meaning.Step.{inputs_of, outputs_of, advance, unbroken, first_tuple}
use Rattle.product.specs.Meaning.States.{Reached}
use Rattle.game.specs.Meaning.History.{Step, Permitted}
use Rattle.game.specs.Meaning.Survival as survival
use Rattle.game.specs.Meaning.Supervisor as supervisor

-- some way of answering any n inputs as they come from the tuple t breaks nothing
abbrev pub Survives : Decoded → ℕ → List ℕ → Type 0
Survives d n t = survival.Survives (List ℕ) (inputs_of d) (outputs_of d) (advance d) (unbroken d) n t

-- an output is allowed: it breaks nothing, and for every n some way of answering any n further inputs breaks nothing
abbrev pub Allowed : Decoded → List ℕ → ℕ → ℕ → Type 0
Allowed d t i o = survival.Allowed (List ℕ) (inputs_of d) (outputs_of d) (advance d) (unbroken d) t i o

-- a tuple from which every number of inputs can be survived, and one from which some number cannot
abbrev pub Kept : Decoded → List ℕ → Type 0
Kept d t = (n : ℕ) → Survives d n t

abbrev pub Lost : Decoded → List ℕ → Type 0
Lost d t = (n : ℕ) × (¬ Survives d n t)

-- ground 7: there are more than 512 product states
pub record TooMany (d : Decoded) : Type 0 where
  pub tuples : List (List ℕ)
  pub many : length tuples ≡ suc max_states
  pub reached : (j : ℕ) → j < length tuples → Reached d (get_or tuples j [])
  pub distinct : (i j : ℕ) → i < j → j < length tuples → get_or tuples i [] ≡ get_or tuples j [] → ⊥

-- ground 8: for some n no way of answering exists from the start
abbrev pub Unrealizable : Decoded → Type 0
Unrealizable d = Lost d (first_tuple d)

-- the bytes s are the sheet d, which is in bounds: none of 1 to 6 applies
pub record IsSheet (s : List ℕ) (d : Decoded) : Type 0 where
  pub in_bounds : SheetOk d
  pub bytes : encode d ≡ s

-- and an accepted one: none of 7 and 8 applies either
pub record Accepted (s : List ℕ) (d : Decoded) : Type 0 where
  pub sheet : IsSheet s d
  pub few : TooMany d → ⊥
  pub realizable : Kept d (first_tuple d)

-- a supervisor of the sheet, given by a test on histories, inputs and outputs: it never blocks and never breaks
abbrev pub Supervises : Decoded → (List Step → ℕ → ℕ → Type 0) → Type 0
Supervises d P =
    supervisor.Supervises (List ℕ) (inputs_of d) (outputs_of d) (advance d) (unbroken d) (first_tuple d) P

abbrev pub AllowedAfter : Decoded → List Step → ℕ → ℕ → Type 0
AllowedAfter d h i o =
    supervisor.Permissive (List ℕ) (inputs_of d) (outputs_of d) (advance d) (unbroken d) (first_tuple d) h i o

-- the allowed outputs are a supervisor's, and every supervisor permits only allowed outputs.
-- (A promise cannot speak of all relations at once, only of all tests; game has the theorem for relations.)
pub record MaximallyPermissive (d : Decoded) : Type 0 where
  pub supervises : Supervises d (AllowedAfter d)
  pub greatest : (P : List Step → ℕ → ℕ → Bool) → Supervises d (λ h i o. P h i o ≡ true)
      → (h : List Step) → Permitted (inputs_of d) (λ h i o. P h i o ≡ true) h
      → (i o : ℕ) → i < inputs_of d → P h i o ≡ true → AllowedAfter d h i o

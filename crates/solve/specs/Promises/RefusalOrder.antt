-- What the number of every call says that solves a sheet, in document 01's order: 10, 1 to 6, 7, then `stop` in the place of 8, then 9.
-- `work` says that the work memory is long enough, `room` is the length of the result and `size d` that of a sheet's answer.
-- Assumes nothing.
use Rattle.std.specs.Prelude.{◌≡◌, ◌↔◌, Bool, true, false, List, ℕ, ◌≤◌, ◌<◌}
use Rattle.sheet.specs.Meaning.Decoded.{Decoded}
use Rattle.sheet.specs.Meaning.Refusals.{sheet_number}
use Rattle.solve.specs.Meaning.Allowed.{TooMany, IsSheet}

pub record InOrder (stop : ℕ) (Stopped Passes : Decoded → Type 0) (size : Decoded → ℕ) (work : Bool) (s : List ℕ) (room number : ℕ) :
    Type 0 where
  -- none of 1 to 6 is due exactly if the bytes are a sheet's in bounds
  pub in_bounds : (sheet_number s ≡ 0) ↔ ((d : Decoded) × IsSheet s d)
  -- 10 exactly if a work slice is short
  pub short_work : (number ≡ 10) ↔ (work ≡ false)
  -- where none is: one of 1 to 6 exactly if the bytes are no sheet's in bounds, and then the one that is due
  pub bad_sheet : work ≡ true → ((1 ≤ number) × (number ≤ 6)) ↔ (((d : Decoded) × IsSheet s d) → ⊥)
  pub cause : work ≡ true → (((d : Decoded) × IsSheet s d) → ⊥) → number ≡ sheet_number s
  -- where they are one's: 7 exactly if it has too many product states
  pub too_many : work ≡ true → (d : Decoded) → IsSheet s d → (number ≡ 7) ↔ TooMany d
  -- where it has not: the call's own number exactly if the call stops there
  pub stopped : work ≡ true → (d : Decoded) → IsSheet s d → (TooMany d → ⊥) → (number ≡ stop) ↔ Stopped d
  -- where the sheet passes: 9 exactly if the result is shorter than the answer
  pub short_result : work ≡ true → (d : Decoded) → IsSheet s d → (TooMany d → ⊥) → Passes d → (number ≡ 9) ↔ (room < size d)
  -- no refusal exactly if the sheet passes and work and result are long enough
  pub exactly : (number ≡ 0)
      ↔ ((d : Decoded) × IsSheet s d × (TooMany d → ⊥) × Passes d × (work ≡ true) × (size d ≤ room))

-- What every call promises that opens a sheet and has no result memory: refusals by document 01's numbers in its order, and when each
-- is answered. `work` says that the work memory is long enough.
-- Assumes nothing.
use Rattle.std.specs.Prelude.{◌≡◌, ◌↔◌, Bool, true, false, List, ℕ, ◌≤◌}
use Rattle.sheet.specs.Meaning.Decoded.{Decoded}
use Rattle.sheet.specs.Meaning.Refusals.{sheet_number}
use Rattle.solve.specs.Meaning.Allowed.{TooMany, Unrealizable, IsSheet, Accepted}
use Rattle.solve.specs.Model.Opening.{opening_number}

pub record OpensSheet (work : Bool) (s : List ℕ) (number : ℕ) : Type 0 where
  pub model : number ≡ opening_number work s
  -- none of 1 to 6 is due exactly if the bytes are a sheet's in bounds
  pub in_bounds : (sheet_number s ≡ 0) ↔ ((d : Decoded) × IsSheet s d)
  -- 10 exactly if a work slice is short
  pub short_work : (number ≡ 10) ↔ (work ≡ false)
  -- where none is: one of 1 to 6 exactly if the bytes are no sheet's in bounds, and then the one that is due
  pub bad_sheet : work ≡ true → ((1 ≤ number) × (number ≤ 6)) ↔ (((d : Decoded) × IsSheet s d) → ⊥)
  pub cause : work ≡ true → (((d : Decoded) × IsSheet s d) → ⊥) → number ≡ sheet_number s
  -- where they are one's: 7 exactly if it has too many product states
  pub too_many : work ≡ true → (d : Decoded) → IsSheet s d → (number ≡ 7) ↔ TooMany d
  -- where it has not: 8 exactly if it is unrealizable
  pub unrealizable : work ≡ true → (d : Decoded) → IsSheet s d → (TooMany d → ⊥) → (number ≡ 8) ↔ Unrealizable d
  -- there is no result to be short
  pub never_nine : number ≡ 9 → ⊥
  -- no refusal exactly if the sheet is accepted and the work memory long enough
  pub exactly : (number ≡ 0) ↔ ((d : Decoded) × Accepted s d × (work ≡ true))

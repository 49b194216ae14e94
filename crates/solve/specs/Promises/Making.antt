-- What every maker of a table promises, for every sheet, result and work memory: refusals by document 01's numbers in its
-- order, figures, result bytes, and when 7, 8 and a table are answered. `table d` is the table of a sheet, `stateCounts d` the
-- number of its states.
-- Assumes nothing.
use Rattle.std.specs.Prelude.{◌≡◌, ◌↔◌, Bool, true, false, List, ◌++◌, ℕ, ◌≤◌, ◌<◌, length, drop, Result}
use Rattle.sheet.specs.Meaning.Decoded.{Decoded}
use Rattle.sheet.specs.Meaning.Refusals.{sheet_number}
use Rattle.solve.specs.Meaning.Allowed.{TooMany, Unrealizable, IsSheet, Accepted}
use Rattle.sheet.specs.declared.layout.Refusal.{Refusal}
use Rattle.solve.specs.declared.made.Made.{Made}
use Rattle.solve.specs.Meaning.Made.{made_number, made_length, made_states}
use Rattle.solve.specs.Model.Making.{Answers}

-- what was written: the table, then what the result held before, and its figures
pub record Written (table : List ℕ) (states : ℕ) (before : List ℕ) (r : Result Made Refusal) (after : List ℕ) : Type 0 where
  pub size : made_length r ≡ length table
  pub count : made_states r ≡ states
  pub bytes : after ≡ table ++ drop (length table) before

-- a refusal: every figure is 0, and the result is as it was
pub record Unwritten (before : List ℕ) (r : Result Made Refusal) (after : List ℕ) : Type 0 where
  pub size : made_length r ≡ 0
  pub count : made_states r ≡ 0
  pub bytes : after ≡ before

-- and what the answer means, over the sheet whose bytes were given
pub record Makes (table : Decoded → List ℕ) (stateCounts : Decoded → ℕ) (work : Bool) (s before : List ℕ) (r : Result Made Refusal)
    (after : List ℕ) : Type 0 where
  pub answers : Answers table stateCounts work s before r after
  -- none of 1 to 6 is due exactly if the bytes are a sheet's in bounds
  pub in_bounds : (sheet_number s ≡ 0) ↔ ((d : Decoded) × IsSheet s d)
  -- 10 exactly if a work slice is short
  pub short_work : (made_number r ≡ 10) ↔ (work ≡ false)
  -- where none is: one of 1 to 6 exactly if the bytes are no sheet's in bounds, and then the one that is due
  pub bad_sheet : work ≡ true → ((1 ≤ made_number r) × (made_number r ≤ 6)) ↔ (((d : Decoded) × IsSheet s d) → ⊥)
  pub cause : work ≡ true → (((d : Decoded) × IsSheet s d) → ⊥) → made_number r ≡ sheet_number s
  -- where they are one's: 7 exactly if it has too many product states
  pub too_many : work ≡ true → (d : Decoded) → IsSheet s d → (made_number r ≡ 7) ↔ TooMany d
  -- where it has not: 8 exactly if it is unrealizable
  pub unrealizable : work ≡ true → (d : Decoded) → IsSheet s d → (TooMany d → ⊥) → (made_number r ≡ 8) ↔ Unrealizable d
  -- where the sheet is accepted: 9 exactly if the result is shorter than the table
  pub short_result : work ≡ true → (d : Decoded) → Accepted s d → (made_number r ≡ 9) ↔ (length before < length (table d))
  -- a table exactly if the sheet is accepted and work and result are long enough
  pub exactly : (made_number r ≡ 0)
      ↔ ((d : Decoded) × Accepted s d × (work ≡ true) × (length (table d) ≤ length before))
  pub written : made_number r ≡ 0 → (d : Decoded) → IsSheet s d → Written (table d) (stateCounts d) before r after
  pub unwritten : (made_number r ≡ 0 → ⊥) → Unwritten before r after

-- No ground has the number 0.
-- Assumes nothing.
use Rattle.std.specs.Prelude.{◌≡◌, refl, ℕ, suc, ◌<◌, Result, IfOk, Ok, Err}
use Rattle.std.proofs.Common.{arith}
use Rattle.sheet.specs.declared.layout.Refusal.{Refusal}
use Rattle.sheet.specs.declared.layout.Refusal.TheVariants.{Truncated, Misplaced, BadHead, BadMonitor, SeventhMonitor, LongHorizon, TooManyStates, Unrealizable, ShortResult, ShortWork}
use Rattle.sheet.specs.Meaning.Grounds.{ground_number, verdict_number}

-- none of them is 0
pub some_number : (g : Refusal) → (n : ℕ) × (ground_number g ≡ suc n)
some_number Truncated = (0, refl)
some_number Misplaced = (1, refl)
some_number BadHead = (2, refl)
some_number BadMonitor = (3, refl)
some_number SeventhMonitor = (4, refl)
some_number LongHorizon = (5, refl)
some_number TooManyStates = (6, refl)
some_number Unrealizable = (7, refl)
some_number ShortResult = (8, refl)
some_number ShortWork = (9, refl)

pub number_positive : (g : Refusal) → 0 < ground_number g
number_positive g = let n = some_number g in omega (arith, n.1)

-- so an answer with no number is one that was given
pub answered : {T : Type 0} (r : Result T Refusal) → verdict_number r ≡ 0 → (x : T) × (r ≡ Ok x)
answered (Ok x) e = (x, refl)
answered (Err g) e = let n = some_number g in absurd (omega (arith, n.1))

pub given : {T : Type 0} {r : Result T Refusal} {x : T} → r ≡ Ok x → verdict_number r ≡ 0
given e = rw e

pub ok_inj : {T E : Type 0} {x y : T} → ◌≡◌ {A = Result T E} (Ok x) (Ok y) → x ≡ y
ok_inj e = cc

-- what holds of an answer wherever one was given
pub if_ok : {T E : Type 0} {P : T → Type 0} (r : Result T E) → ((x : T) → r ≡ Ok x → P x) → IfOk r P
if_ok (Ok x) f = f x refl
if_ok (Err e) f = tt

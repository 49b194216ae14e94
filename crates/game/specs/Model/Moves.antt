-- The safety game from move to move: lasting n inputs.
-- Assumes nothing.
use Rattle.std.specs.Prelude.{◌≡◌, Bool, true, ℕ, zero, suc, ◌<◌}

module _ (S : Type 0) (I O : ℕ) (step : S → ℕ → ℕ → S) (ok : S → ℕ → ℕ → Bool) where
  -- surviving from move to move
  abbrev pub Lasts : ℕ → S → Type 0
  Lasts zero s = Unit {0}
  Lasts (suc n) s = (i : ℕ) → i < I → (o : ℕ) × (o < O) × (ok s i o ≡ true) × Lasts n (step s i o)

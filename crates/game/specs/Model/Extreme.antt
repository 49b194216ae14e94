-- The smallest beside the largest, and value iteration by either.
-- Assumes nothing.
use Rattle.std.specs.Prelude.{Bool, cond, ℕ, zero, suc, ◌+◌, ◌*◌, ◌^◌, min}
use Rattle.records.specs.Meaning.Bounded.{any, sum}

-- the smallest f over the numbers below n that pass the test; 0 if none does
unfoldable pub bottom : ℕ → (ℕ → Bool) → (ℕ → ℕ) → ℕ
bottom zero p f = 0
bottom (suc n) p f = cond (p n) (cond (any n p) (min (bottom n p f) (f n)) (f n)) (bottom n p f)

-- a figure found from those that pass: the largest (`top`), or the smallest
abbrev pub Pick : Type 0
Pick = ℕ → (ℕ → Bool) → (ℕ → ℕ) → ℕ

module _ (pick : Pick) (S : Type 0) (I O : ℕ) (step : S → ℕ → ℕ → S) (may : S → ℕ → ℕ → Bool) (reward : S → ℕ → ℕ → ℕ) where
  -- what is earned from s over p inputs, added over all words of p inputs, by picking at every step
  unfoldable pub value_by : ℕ → S → ℕ
  value_by zero s = 0
  value_by (suc p) s = sum I (λ i. pick O (may s i) (λ o. reward s i o * I ^ p + value_by p (step s i o)))

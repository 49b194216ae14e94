-- The least number below a bound that passes a test, and the largest score of those that pass.
-- Assumes nothing.
use Rattle.std.specs.Prelude.{Bool, cond, ℕ, zero, suc, max}

-- ---- the least

-- the least number below n that passes the test, or n
unfoldable pub least : ℕ → (ℕ → Bool) → ℕ
least zero p = 0
least (suc n) p = cond (p 0) 0 (suc (least n (λ k. p (suc k))))

-- ---- the largest

-- the largest f over the numbers below n that pass the test; 0 if none does
unfoldable pub top : ℕ → (ℕ → Bool) → (ℕ → ℕ) → ℕ
top zero p f = 0
top (suc n) p f = cond (p n) (max (top n p f) (f n)) (top n p f)

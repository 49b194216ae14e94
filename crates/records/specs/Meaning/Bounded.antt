-- Tests, sums and counts over the numbers below a bound.
-- Assumes nothing.
use Rattle.std.specs.Prelude.{◌≡◌, Bool, true, false, cond, ◌&&◌, ◌||◌, ℕ, zero, suc, ◌+◌, ◌<◌}

-- ---- for all

-- the test passes at each number below n
unfoldable pub all : ℕ → (ℕ → Bool) → Bool
all zero p = true
all (suc n) p = all n p && p n

-- ---- for some

-- the test passes at some number below n
unfoldable pub any : ℕ → (ℕ → Bool) → Bool
any zero p = false
any (suc n) p = any n p || p n

-- ---- the first

-- m is the lowest number below n that passes the test
pub record Lowest (p : ℕ → Bool) (n m : ℕ) : Type 0 where
  pub low : m < n
  pub hit : p m ≡ true
  pub none : (j : ℕ) → j < m → p j ≡ false

-- ---- how many

-- how many numbers below n pass the test
unfoldable pub count : ℕ → (ℕ → Bool) → ℕ
count zero p = 0
count (suc n) p = count n p + cond (p n) 1 0

-- ---- sums

-- the sum of f over the numbers below n
unfoldable pub sum : ℕ → (ℕ → ℕ) → ℕ
sum zero f = 0
sum (suc n) f = sum n f + f n

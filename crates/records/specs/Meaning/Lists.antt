-- Lists given by what stands at each index, and lists put together from blocks.
-- Assumes nothing.
use Rattle.std.specs.Prelude.{List, [], ◌∷◌, ◌++◌, ℕ, zero, suc}

-- ---- a list by index

-- f 0, f 1, .., f (n - 1)
unfoldable pub tab {ℓ} : {A : Type ℓ} → ℕ → (ℕ → A) → List A
tab zero f = []
tab (suc n) f = f 0 ∷ tab n (λ k. f (suc k))

-- ---- a list of blocks

-- f 0, f 1, .., f (n - 1), one after the other
unfoldable pub cat {ℓ} : {A : Type ℓ} → ℕ → (ℕ → List A) → List A
cat zero f = []
cat (suc n) f = cat n f ++ f n

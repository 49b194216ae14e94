-- A list with its front replaced, and a part of a list.
-- Assumes nothing.
use Rattle.std.specs.Prelude.{List, [], ◌∷◌, ℕ, zero, suc, ◌+◌, get_or}
use Rattle.records.specs.Meaning.Lists.{tab}

-- ---- a list with its front replaced: what a loop that stores at 0, 1, .. has made of it

-- d with f k put at each k below n
unfoldable pub put {ℓ} : {A : Type ℓ} → List A → ℕ → (ℕ → A) → List A
put [] n f = []
put (x ∷ d) zero f = x ∷ d
put (x ∷ d) (suc n) f = f 0 ∷ put d n (λ k. f (suc k))

-- n elements from an index on, 0 where there is none
unfoldable pub part : List ℕ → ℕ → ℕ → List ℕ
part s at n = tab n (λ k. get_or s (at + k) 0)

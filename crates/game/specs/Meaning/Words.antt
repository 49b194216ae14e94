-- Words of inputs: which they are, the list of all words of a length, and the sum of a figure over a list.
-- Assumes nothing.
use Rattle.std.specs.Prelude.{◌≡◌, List, [], ◌∷◌, map, ℕ, zero, suc, ◌+◌, ◌<◌, length}
use Rattle.records.specs.Meaning.Lists.{cat}

-- every letter of the word is below n
abbrev pub Below : ℕ → List ℕ → Type 0
Below n [] = Unit {0}
Below n (i ∷ w) = (i < n) × Below n w

-- a word of n letters, each below I
pub record Word (I n : ℕ) (w : List ℕ) : Type 0 where
  pub long : length w ≡ n
  pub below : Below I w

-- all words of n letters below I, in order
unfoldable pub words : ℕ → ℕ → List (List ℕ)
words I zero = [] ∷ []
words I (suc n) = cat I (λ i. map (λ (w : List ℕ). i ∷ w) (words I n))

-- the sum of g over a list
unfoldable pub total {ℓ} : {A : Type ℓ} → (A → ℕ) → List A → ℕ
total g [] = 0
total g (x ∷ xs) = g x + total g xs

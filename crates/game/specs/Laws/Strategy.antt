-- A strategy that begins with a given output, and strategies whose steps are Ok in a wider sense.
-- Assumes nothing.
use Rattle.std.specs.Prelude.{List, [], ◌∷◌, ℕ, ◌<◌}
use Rattle.game.specs.Meaning.Strategy as meaningStrategy
use Rattle.game.specs.Meaning.Strategy.{first, after}

-- the strategy g, but with o at the empty string
abbrev pub firstly : ℕ → (List ℕ → ℕ) → List ℕ → ℕ
firstly o g [] = o
firstly o g (j ∷ h) = g (j ∷ h)

module _ (S : Type 0) (O : ℕ) (step : S → ℕ → ℕ → S) (Ok : S → ℕ → ℕ → Type 0) where
  abbrev Along : (List ℕ → ℕ) → S → List ℕ → Type 0
  Along = meaningStrategy.Along S O step Ok

  -- a strategy is read only at strings that are not empty
  pub along_firstly : (o : ℕ) (g : List ℕ → ℕ) (s : S) (w : List ℕ) → Along g s w → Along (firstly o g) s w
  along_firstly o g s [] a = tt
  along_firstly o g s (i ∷ w) a = a

-- what is Ok may be weakened
pub along_mono : (S : Type 0) (O : ℕ) (step : S → ℕ → ℕ → S) (Ok Fine : S → ℕ → ℕ → Type 0)
    → ((s : S) (i o : ℕ) → o < O → Ok s i o → Fine s i o)
    → (f : List ℕ → ℕ) (s : S) (w : List ℕ) → Along S O step Ok f s w → Along S O step Fine f s w
along_mono S O step Ok Fine weaker f s [] a = tt
along_mono S O step Ok Fine weaker f s (i ∷ w) a =
    (a.0, weaker s i (first i f) a.0 a.1, along_mono S O step Ok Fine weaker (after i f) (step s i (first i f)) w a.2)

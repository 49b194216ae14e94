-- Strategies: an output for each string of the inputs so far, the present one last.
-- `Along` says what holds of the steps that a strategy takes along a word, over any proposition on steps.
-- Assumes nothing.
use Rattle.std.specs.Prelude.{List, [], ◌∷◌, ℕ, ◌<◌}

-- the output of a strategy at its first input i
abbrev pub first : ℕ → (List ℕ → ℕ) → ℕ
first i f = f (i ∷ [])

-- what is left of a strategy after the input i
abbrev pub after : ℕ → (List ℕ → ℕ) → List ℕ → ℕ
after i f h = f (i ∷ h)

module _ (S : Type 0) (O : ℕ) (step : S → ℕ → ℕ → S) (Ok : S → ℕ → ℕ → Type 0) where
  -- along the word w from s each output of the strategy is below O, and its step is Ok
  abbrev pub Along : (List ℕ → ℕ) → S → List ℕ → Type 0
  Along f s [] = Unit {0}
  Along f s (i ∷ w) = (first i f < O) × Ok s i (first i f) × Along (after i f) (step s i (first i f)) w

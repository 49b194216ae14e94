-- The safety game: surviving n inputs, and what is allowed (document 01, demand 2).
-- A step of s by input i and output o leads to `step s i o`, and is unbroken if `ok s i o` is true.
-- Assumes nothing.
use Rattle.std.specs.Prelude.{◌≡◌, Bool, true, List, ℕ, ◌<◌}
use Rattle.game.specs.Meaning.Words.{Word}
use Rattle.game.specs.Meaning.Strategy.{Along}

module _ (S : Type 0) (I O : ℕ) (step : S → ℕ → ℕ → S) (ok : S → ℕ → ℕ → Bool) where
  abbrev pub Unbroken : S → ℕ → ℕ → Type 0
  Unbroken s i o = ok s i o ≡ true

  -- some way of answering any n inputs as they come breaks nothing
  abbrev pub Survives : ℕ → S → Type 0
  Survives n s = (f : List ℕ → ℕ) × ((w : List ℕ) → Word I n w → Along S O step Unbroken f s w)

  -- an output is allowed if its step is unbroken and, for every n, some way of answering any n further inputs breaks nothing
  pub record Allowed (s : S) (i o : ℕ) : Type 0 where
    pub output : o < O
    pub unbroken : ok s i o ≡ true
    pub survives : (n : ℕ) → Survives n (step s i o)

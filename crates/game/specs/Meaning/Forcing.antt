-- Forcing a break (document 02, N2): from move to move, and by ways of giving inputs.
-- A way of giving inputs is a function of the answers so far, the first one first.
-- Assumes nothing.
use Rattle.std.specs.Prelude.{◌≡◌, Bool, true, false, not, ◌||◌, List, [], ◌∷◌, ℕ, zero, suc, ◌-◌, ◌<◌}
use Rattle.game.specs.Meaning.Words.{Word}
use Rattle.game.specs.Meaning.Strategy.{after}

module _ (S : Type 0) (I O : ℕ) (step : S → ℕ → ℕ → S) (ok : S → ℕ → ℕ → Bool) where
  -- the inputs can force, within n steps and against every answer, a step that is broken
  abbrev pub Forces : ℕ → S → Type 0
  Forces zero s = ⊥
  Forces (suc n) s = (i : ℕ) × (i < I) × ((o : ℕ) → o < O → ok s i o ≡ true → Forces n (step s i o))

  -- the input i does so: after every answer that is unbroken they can force one within n steps more
  abbrev pub ForcesAfter : ℕ → S → ℕ → Type 0
  ForcesAfter n s i = (o : ℕ) → o < O → ok s i o ≡ true → Forces n (step s i o)

  -- some step is broken when g gives the inputs and w are the answers
  unfoldable pub breaks : (List ℕ → ℕ) → S → List ℕ → Bool
  breaks g s [] = false
  breaks g s (o ∷ w) = not (ok s (g []) o) || breaks (after o g) (step s (g []) o) w

  -- g gives inputs below I, and against every string of n answers below O a step within the n is broken
  pub record Beats (n : ℕ) (s : S) (g : List ℕ → ℕ) : Type 0 where
    pub inputs : (h : List ℕ) → g h < I
    pub wins : (w : List ℕ) → Word O n w → breaks g s w ≡ true

  -- n is the least number of steps in which a break is forced from s, and i the lowest input that does so in n steps
  pub record ForcedBy (s : S) (n i : ℕ) : Type 0 where
    -- from move to move
    pub forces : Forces n s
    pub soonest : (m : ℕ) → m < n → Forces m s → ⊥
    pub input : i < I
    pub begins : ForcesAfter (n - 1) s i
    pub lowest : (j : ℕ) → j < i → ForcesAfter (n - 1) s j → ⊥
    -- and by ways of giving inputs: one that begins with i, none within fewer steps, none that begins with a lower input
    pub way : List ℕ → ℕ
    pub beats : Beats n s way
    pub first : way [] ≡ i
    pub none_sooner : (m : ℕ) → m < n → (g : List ℕ → ℕ) → Beats m s g → ⊥
    pub none_lower : (g : List ℕ → ℕ) → Beats n s g → g [] < i → ⊥

-- What a forecast says of a sheet's kept states (document 02, N1): the most and the least that ways of answering earn, and their averages.
-- A way of answering is a function of the inputs so far; here all its outputs are allowed.
-- Assumes nothing.
use Rattle.std.specs.Prelude.{◌≡◌, List, ℕ, ◌*◌, ◌^◌, ◌≤◌, Float}
use Rattle.std.specs.Float.{binary64}
use Rattle.std.specs.Float.Ieee.{to_bits}
use Rattle.game.specs.Meaning.Ways as ways
use Rattle.game.specs.Meaning.Ways.{AtMost, AtLeast}
use Rattle.sheet.specs.Meaning.Decoded.{Decoded, input_lines}
use Rattle.product.specs.Meaning.Step.{inputs_of, outputs_of, advance, reward}
use Rattle.product.specs.Meaning.States.{Reached}
use Rattle.solve.specs.Meaning.Allowed.{Kept, Allowed}
use Rattle.averages.specs.Meaning.Averages.{average_of, Exactly}
use Rattle.card.specs.declared.Averages.{Averages}

-- m is what some way of answering h inputs from the tuple t earns, added over all words of h inputs, and what every way earns stands to
-- it as R says
abbrev pub EarnedBy : (ℕ → ℕ → Type 0) → Decoded → ℕ → List ℕ → ℕ → Type 0
EarnedBy R d h t m = ways.Earned (List ℕ) (inputs_of d) (outputs_of d) (advance d) (Allowed d) (reward d) R h t m

-- no way earns more; none earns less
abbrev pub MostEarned : Decoded → ℕ → List ℕ → ℕ → Type 0
MostEarned = EarnedBy AtMost

abbrev pub LeastEarned : Decoded → ℕ → List ℕ → ℕ → Type 0
LeastEarned = EarnedBy AtLeast

-- a product state that is kept
pub record KeptState (d : Decoded) (t : List ℕ) : Type 0 where
  pub reached : Reached d t
  pub kept : Kept d t

-- document 01's recursion for Best, of a function of steps and kept product states; and the same with the smallest
abbrev pub SumsBy : (ℕ → ℕ → Type 0) → Decoded → (ℕ → List ℕ → ℕ) → Type 0
SumsBy R d v = ways.Recursion (List ℕ) (inputs_of d) (outputs_of d) (advance d) (Allowed d) (reward d) R (KeptState d) v

abbrev pub BestSums : Decoded → (ℕ → List ℕ → ℕ) → Type 0
BestSums = SumsBy AtMost

abbrev pub LeastSums : Decoded → (ℕ → List ℕ → ℕ) → Type 0
LeastSums = SumsBy AtLeast

-- x is the average of a sum over the words of h inputs: its value × 2^(inputs × h) is the sum, and it is the float that is nearest;
-- 0 is +0
pub record ExactAverage (d : Decoded) (h sum : ℕ) (x : Float) : Type 0 where
  pub most : sum ≤ 2 ^ 53
  pub exact : Exactly x sum (2 ^ (input_lines d * h))
  pub float : x ≡ average_of sum (2 ^ (input_lines d * h))
  pub zero : sum ≡ 0 → to_bits binary64 x ≡ 0

-- what the card says of a kept tuple t over h steps; the whole sums are `most` and `least`
pub record WorthOf (d : Decoded) (h : ℕ) (t : List ℕ) (most least : ℕ) (a : Averages) : Type 0 where
  pub best_average : ExactAverage d h most a.best
  pub least_average : ExactAverage d h least a.least
  pub best_earned : MostEarned d h t most
  pub least_earned : LeastEarned d h t least
  pub ordered : least ≤ most
  -- over no steps both are 0
  pub none : h ≡ 0 → (most ≡ 0) × (least ≡ 0)

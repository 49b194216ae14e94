-- An average as a 64-bit float, and what makes one exact.
-- Assumes nothing.
use Rattle.std.specs.Prelude.{false, ℕ, Float}
use Rattle.std.specs.Float.{binary64}
use Rattle.std.specs.Float.Ieee.{round}
use Rattle.std.specs.Float.Ieee.Exact.{HasValue}

-- the 64-bit float nearest to sum / words
unfoldable pub average_of : ℕ → ℕ → Float
average_of sum words = round binary64 false sum words

-- a float is exactly sum / words: finite, not negative, and its value times words is the sum
abbrev pub Exactly : Float → ℕ → ℕ → Type 0
Exactly x sum words = HasValue x false sum words

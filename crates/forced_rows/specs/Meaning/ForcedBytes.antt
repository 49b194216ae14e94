-- The bytes of the answer that shows how a break is forced (document 02, N2 and N3): for each product state the number of steps in two
-- bytes, then the input, then for each output value the monitor that it breaks.
-- Assumes nothing.
use Rattle.std.specs.Prelude.{List, ◌∷◌, ◌++◌, ℕ, ◌+◌, ◌*◌}
use Rattle.records.specs.Meaning.Lists.{tab, cat}
use Rattle.records.specs.Meaning.Numbers.{u16_bytes}

-- a state's bytes, `outs` being the number of output values
unfoldable pub forced_bytes : ℕ → ℕ → ℕ → (ℕ → ℕ) → List ℕ
forced_bytes outs steps input monitor = u16_bytes steps ++ (input ∷ tab outs monitor)

-- a whole answer, in the order of the states' numbers
unfoldable pub forced_answer : ℕ → ℕ → (ℕ → ℕ) → (ℕ → ℕ) → (ℕ → ℕ → ℕ) → List ℕ
forced_answer outs count steps input monitor = cat count (λ k. forced_bytes outs (steps k) (input k) (monitor k))

unfoldable pub forced_length : ℕ → ℕ → ℕ
forced_length outs count = count * (3 + outs)

-- where no monitor is named
abbrev pub no_breaker : ℕ
no_breaker = 255

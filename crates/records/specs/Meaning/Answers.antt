-- The number of an answer (document 01): 0, or that of the ground on which it is refused.
-- Assumes nothing.
use Rattle.std.specs.Prelude.{ℕ, Result, Ok, Err}

-- by a number for each ground
abbrev pub number_in : {T E : Type 0} → (E → ℕ) → Result T E → ℕ
number_in number (Ok x) = 0
number_in number (Err cause) = number cause

-- Bits of a number.
-- Assumes nothing.
use Rattle.std.specs.Prelude.{ℕ, ◌/◌, ◌%◌, ◌^◌}

-- bit o of a number
abbrev pub bit_at : ℕ → ℕ → ℕ
bit_at m o = m / 2 ^ o % 2

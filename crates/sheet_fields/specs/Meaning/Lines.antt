-- What a head's lines come to: the guard's input lines, and the letters that a monitor reads.
-- Assumes nothing.
use Rattle.std.specs.Prelude.{cond, ℕ, ◌+◌, ◌^◌, eqb}

-- the guard's input lines: in mode 1 the proposal's lines come on top of the site's
unfoldable pub guard_lines : ℕ → ℕ → ℕ → ℕ
guard_lines mode site outputs = cond (eqb mode 1) (site + outputs) site

-- the letters that a monitor reads: four for a deviation limit (role 2), else those of site lines and outputs
unfoldable pub letters_read : ℕ → ℕ → ℕ → ℕ
letters_read role site outputs = cond (eqb role 2) 4 (2 ^ (site + outputs))

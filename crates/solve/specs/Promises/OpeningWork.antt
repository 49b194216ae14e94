-- The work memory that every maker asks for, since its opening needs it; docs/MEMORY.md says what each slice holds.
-- Assumes nothing.
use Rattle.std.specs.Prelude.{List, ◌∷◌, ℕ, ◌+◌, ◌*◌}
use Rattle.records.specs.Meaning.Limits.{max_letters}
use Rattle.records.specs.Meaning.Work.{Slice, pairs, eights}

-- for n product states: tuples, cells, and dropped, which is the tuples' index before; then what a maker asks for beside them
abbrev pub opening_work : ℕ → List Slice → List Slice
opening_work n more = eights n ∷ pairs (n * max_letters) ∷ pairs (521 + 4 * n) ∷ more

-- together at most so many bytes (document 02, N6)
abbrev pub work_most : ℕ
work_most = 131_072

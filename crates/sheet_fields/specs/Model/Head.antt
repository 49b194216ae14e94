-- A head's literal, as the reader keeps it.
-- Assumes nothing.
use Rattle.std.specs.Prelude.{cond, List, ℕ, ◌+◌, ltb, get_or}
use Rattle.sheet_fields.specs.Meaning.Places.{literals_from}

-- literal j of a head with so many outputs, 0 past them
unfoldable pub literal_at : List ℕ → ℕ → ℕ → ℕ → ℕ
literal_at s start outputs j = cond (ltb j outputs) (get_or s (literals_from start + j) 0) 0

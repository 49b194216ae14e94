-- The rows of a supervisor table (document 01), from a table of steps and the rounds over it.
-- Assumes nothing.
use Rattle.std.specs.Prelude.{cond, List, ◌∷◌, ◌++◌, ℕ, ◌+◌, ◌*◌}
use Rattle.records.specs.Meaning.Lists.{tab}
use Rattle.records.specs.Meaning.Records.{header}
use Rattle.rounds.specs.Model.TableRounds.{is_in, mask_of}

-- 1 if state k is kept, else 0
unfoldable pub kept_flag : List ℕ → ℕ → ℕ
kept_flag dropped k = cond (is_in dropped k) 1 0

-- kind 18: whether the state is kept, and a mask for each input
unfoldable pub table_row : List ℕ → List ℕ → ℕ → ℕ → ℕ → List ℕ
table_row cells dropped ins outs k =
    header (1 + ins) 18 ++ (kept_flag dropped k ∷ tab ins (mask_of cells dropped ins outs k))

-- a row's length, and the table's
unfoldable pub mask_row_length : ℕ → ℕ
mask_row_length ins = 5 + ins

unfoldable pub mask_table_length : ℕ → ℕ → ℕ
mask_table_length ins count = 9 + count * mask_row_length ins

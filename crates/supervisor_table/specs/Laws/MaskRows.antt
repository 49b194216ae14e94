-- A row of the model has the length and the format that it should.
-- Assumes nothing.
use Rattle.std.specs.Prelude.{◌≡◌, refl, List, ℕ, length}
use Rattle.std.proofs.Common.{arith}
use Rattle.records.specs.Laws.Lists.{length-tab}
use Rattle.rounds.specs.Model.TableRounds.{mask_of}
use Rattle.supervisor_table.specs.Meaning.SupervisorTable.{mask_row}
use Rattle.supervisor_table.specs.Model.MaskRows.{kept_flag, table_row, mask_row_length}

-- it is a row of the format
pub row_format : (cells dropped : List ℕ) (ins outs k : ℕ)
    → table_row cells dropped ins outs k ≡ mask_row ins (kept_flag dropped k) (mask_of cells dropped ins outs k)
unfolding table_row mask_row
row_format cells dropped ins outs k = refl

-- a row has that length
pub length-mask_row : (cells dropped : List ℕ) (ins outs k : ℕ) → length (table_row cells dropped ins outs k) ≡ mask_row_length ins
unfolding table_row mask_row_length
length-mask_row cells dropped ins outs k = omega (arith, length-tab ins (mask_of cells dropped ins outs k))

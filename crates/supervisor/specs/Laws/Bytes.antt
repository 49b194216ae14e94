-- The bytes of a supervisor table: its length and its format.
-- Assumes nothing.
use Rattle.std.specs.Prelude.{◌≡◌, ℕ, length}
use Rattle.std.proofs.Math.Path.{ap}
use mathlib.Core.List.{List, ◌++◌}
use native.Mathlib.Omega.{arith}
use Rattle.std.proofs.Math.ListN.{length-append}
use Rattle.records.specs.Meaning.Lists.{cat}
use Rattle.records.specs.Laws.Lists.{cat_ext, length-cat}
use Rattle.sheet.specs.Meaning.Decoded.{Decoded, input_lines}
use Rattle.product.specs.Meaning.Step.{inputs_of, outputs_of}
use Rattle.product.specs.Model.ProductNumbering.{state_count}
use Rattle.rounds.specs.Model.TableRounds.{mask_of}
use Rattle.supervisor_table.specs.Meaning.SupervisorTable.{mask_table}
use Rattle.supervisor_table.specs.Model.MaskRows.{kept_flag, table_row, mask_row_length, mask_table_length}
use Rattle.supervisor_table.specs.Laws.MaskRows.{row_format, length-mask_row}
use Rattle.solve.specs.Model.Steps.{cells_of, dropped_of}
use Rattle.supervisor.specs.Model.SupervisorOfSheet.{supervisor_table, table_head, table_of}

module _ (d : Decoded) (n : ℕ) (cells dropped : List ℕ) where
  -- a table has a head of nine bytes and n rows
  pub length-table : length (table_of d n cells dropped) ≡ mask_table_length (inputs_of d) n
  unfolding table_of mask_table_length table_head
  length-table =
      omega (
        arith,
        length-append (table_head d n) (cat n (table_row cells dropped (inputs_of d) (outputs_of d))),
        length-cat (mask_row_length (inputs_of d)) n (table_row cells dropped (inputs_of d) (outputs_of d))
            (λ k h. length-mask_row cells dropped (inputs_of d) (outputs_of d) k),
      )

  -- and is written in the format
  format : table_of d n cells dropped
      ≡ mask_table d.mode (input_lines d) d.outputs n (kept_flag dropped) (mask_of cells dropped (inputs_of d) (outputs_of d))
  unfolding table_of table_head mask_table
  format =
      ap (λ (l : List ℕ). table_head d n ++ l) (cat_ext n _ _ (λ k h. row_format cells dropped (inputs_of d) (outputs_of d) k))

-- ---- the table of a sheet

module _ (d : Decoded) where
  pub table_length_lem : length (supervisor_table d) ≡ mask_table_length (inputs_of d) (state_count d)
  unfolding supervisor_table
  table_length_lem = length-table d (state_count d) (cells_of d) (dropped_of d)

  pub table_format : supervisor_table d
      ≡ mask_table d.mode (input_lines d) d.outputs (state_count d) (kept_flag (dropped_of d))
      (mask_of (cells_of d) (dropped_of d) (inputs_of d) (outputs_of d))
  unfolding supervisor_table
  table_format = format d (state_count d) (cells_of d) (dropped_of d)

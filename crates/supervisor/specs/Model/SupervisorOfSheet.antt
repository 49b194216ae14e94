-- The model of the supervisor table (document 01): its bytes, from a table of steps and the rounds over it.
-- Assumes nothing.
use Rattle.std.specs.Prelude.{List, ◌∷◌, ◌++◌, ℕ}
use Rattle.records.specs.Meaning.Lists.{cat}
use Rattle.records.specs.Meaning.Numbers.{u16_bytes}
use Rattle.records.specs.Meaning.Records.{header}
use Rattle.sheet.specs.Meaning.Decoded.{Decoded, input_lines}
use Rattle.product.specs.Meaning.Step.{inputs_of, outputs_of}
use Rattle.product.specs.Model.ProductNumbering.{state_count}
use Rattle.supervisor_table.specs.Model.MaskRows.{table_row}
use Rattle.solve.specs.Model.Steps.{cells_of, dropped_of}

-- kind 19: mode, inputs, outputs and the count
unfoldable pub table_head : Decoded → ℕ → List ℕ
table_head d count = header 5 19 ++ (d.mode ∷ input_lines d ∷ d.outputs ∷ u16_bytes count)

unfoldable pub table_of : Decoded → ℕ → List ℕ → List ℕ → List ℕ
table_of d count cells dropped =
    table_head d count ++ cat count (table_row cells dropped (inputs_of d) (outputs_of d))

-- the supervisor table of a sheet
unfoldable pub supervisor_table : Decoded → List ℕ
supervisor_table d = table_of d (state_count d) (cells_of d) (dropped_of d)

-- A table's judging, in the code's numbers.
-- Assumes nothing.
use mathlib.Core.Path.{◌≡◌, sym, ap, subst, ◌∙◌}
use mathlib.Core.Bool.{Bool, true}
use mathlib.Core.List.{List, ◌∷◌, ◌++◌}
use Prim.Native.Nat.{ℕ, ◌^◌, ◌≤◌, ◌<◌}
use native.Mathlib.Omega.{arith}
use lib.ListN.{length}
use lib.Seq.{sets}
use Rattle.records.specs.Meaning.Lists.{cat}
use Rattle.records.specs.Meaning.Numbers.{u16_bytes}
use Rattle.records.specs.Meaning.Records.{header}
use Rattle.sheet.specs.Model.Where.{decoded, Fits}
use Rattle.sheet.specs.declared.layout.Sheet.{Sheet}
use Rattle.sheet.specs.declared.layout.Refusal.TheVariants as ground
use Rattle.product.specs.Model.ProductNumbering.{state_count}
use Rattle.supervisor_table.specs.Model.MaskRows.{table_row, mask_table_length}
use Rattle.supervisor.specs.Model.SupervisorOfSheet.{supervisor_table}
use Rattle.solve.specs.Model.Solve.{Solution}
use Rattle.solve.specs.Model.Making.{Judges}
use Rattle.product.specs.Laws.Counts.{layout_inputs}
use Rattle.supervisor.proofs.Promise.{solved_short, layout_made}
use Rattle.std.specs.Prelude.{Ok, Err}

module _ {s : List ℕ} {h : Sheet} (fits : Fits s h) where
  -- the table does not fit into the result
  module _
      {n kept : ℕ} {start : Bool} {tuples cells dropped : List ℕ}
      (solution : Solution (decoded s h) n kept start tuples cells dropped) (before : List ℕ)
      (ins : ℕ) {size : ℕ} (is-inputs : ins ≡ 2 ^ h.inputs) (kept_start : start ≡ true) (is_size : size ≡ mask_table_length ins n)
    where
      pub layout_short : length before < size
          → Judges supervisor_table state_count (decoded s h) before (Err ground.ShortResult) before
      layout_short short =
          solved_short solution before kept_start
          (omega (arith, ap (λ (x : ℕ). mask_table_length x n) (is-inputs ∙ layout_inputs fits)))

      -- or it does, and head and rows are written
      pub layout_written : size ≤ length before → (outs : ℕ) → outs ≡ 2 ^ h.outputs → {head after : List ℕ}
          → head ≡ sets before 0 (header 5 19 ++ (h.mode ∷ h.inputs ∷ h.outputs ∷ u16_bytes n))
          → after ≡ sets head 9 (cat n (table_row cells dropped ins outs))
          → Judges supervisor_table state_count (decoded s h) before (Ok (record { length = size; states = n })) after
      layout_written room outs is-outputs {head} {after} wrote-head wrote-rows =
          subst (λ (l : List ℕ). Judges supervisor_table state_count (decoded s h) before (Ok (record { length = size; states = n })) l)
          (sym (wrote-rows ∙ ap (λ (l : List ℕ). sets l 9 (cat n (table_row cells dropped ins outs))) wrote-head))
          (layout_made fits solution before ins outs size is-inputs is-outputs kept_start is_size room)

-- The maker of supervisor tables: its returns, judged from what solving leaves, and its whole promise.
-- Assumes nothing.
use mathlib.Core.Path.{◌≡◌, sym, ap, ◌∙◌, subst}
use mathlib.Core.Bool.{Bool, true}
use mathlib.Core.List.{List, ◌∷◌, ◌++◌}
use Prim.Native.Nat.{ℕ, ◌^◌, ◌≤◌, ◌<◌}
use native.Mathlib.Omega.{arith}
use Rattle.std.specs.Prelude.{Result, Ok, Err}
use lib.ListN.{length}
use lib.Seq.{sets}
use Rattle.records.specs.Meaning.Work.{long_enough, asked_bytes}
use Rattle.records.specs.Meaning.Limits.{max_states}
use Rattle.records.specs.Meaning.Lists.{cat}
use Rattle.records.specs.Laws.Lists.{sets_append}
use Rattle.records.specs.Meaning.Numbers.{Bytes, u16_bytes}
use Rattle.records.specs.Meaning.Records.{header}
use Rattle.sheet.specs.Meaning.Decoded.{Decoded}
use Rattle.sheet.specs.Model.Where.{decoded, Fits}
use Rattle.sheet.specs.Model.Reader.{reading}
use Rattle.sheet.specs.Promises.Reader.{Reads}
use Rattle.sheet.specs.Laws.Reading.{reads}
use Rattle.solve.specs.Laws.RefusalOrder.{only_read}
use Rattle.sheet.specs.declared.layout.Sheet.{Sheet}
use Rattle.sheet.specs.declared.layout.Refusal.TheVariants as ground
use Rattle.product.specs.Meaning.Step.{inputs_of, outputs_of}
use Rattle.product.specs.Model.ProductNumbering.{state_count}
use Rattle.supervisor_table.specs.Model.MaskRows.{table_row, mask_table_length}
use Rattle.supervisor.specs.Model.SupervisorOfSheet.{table_head, table_of, supervisor_table}
use Rattle.solve.specs.Model.Solve.{Solution}
use Rattle.solve.specs.Meaning.Allowed.{Accepted}
use Rattle.solve.specs.Model.Making.{Judges, Answers}
use Rattle.solve.specs.Promises.Making.{Makes}
use Rattle.supervisor.specs.Promises.SupervisorMaker.{supervisor_work, Means, MakesSupervisor}
use Rattle.supervisor.specs.Laws.Bytes.{length-table}
use Rattle.product.specs.Laws.Counts.{layout_inputs, layout_outputs}
use Rattle.supervisor.proofs.TableSolved.{layout_head, solution_table}
use Rattle.supervisor.specs.Laws.Permissive.{means}
use Rattle.supervisor.specs.Laws.Only.{only_table}
use Rattle.solve.specs.Laws.Judging.{Only, judges_short, judges_made, makes, accepted_layout, written_front}
use Rattle.solve.specs.declared.made.Made.{Made}
use Rattle.sheet.specs.declared.layout.Refusal.{Refusal}

-- ---- the returns, once the sheet is solved

module _
    {d : Decoded} {n kept : ℕ} {start : Bool} {tuples cells dropped : List ℕ}
    (solution : Solution d n kept start tuples cells dropped) (before : List ℕ)
  where
    -- the states fit
    few : state_count d ≤ max_states
    few = omega (arith, solution.numbering.counted, solution.numbering.most)

    -- the table is as long as the code says
    size_is : length (supervisor_table d) ≡ mask_table_length (inputs_of d) n
    size_is = ap length (sym (solution_table solution)) ∙ length-table d n cells dropped

    -- the result is too short
    pub solved_short : start ≡ true → length before < mask_table_length (inputs_of d) n
        → Judges supervisor_table state_count d before (Err ground.ShortResult) before
    solved_short e h =
        judges_short supervisor_table state_count d before few (sym solution.start_kept ∙ e) (omega (arith, size_is))

    -- head and rows are written
    pub solved_made : start ≡ true → mask_table_length (inputs_of d) n ≤ length before
        → Judges supervisor_table state_count d before (Ok (record { length = mask_table_length (inputs_of d) n; states = n }))
        (sets (sets before 0 (table_head d n)) 9 (cat n (table_row cells dropped (inputs_of d) (outputs_of d))))
    unfolding table_of table_head
    solved_made e h =
        let rows : List ℕ = cat n (table_row cells dropped (inputs_of d) (outputs_of d)) in
        let bytes : sets (sets before 0 (table_head d n)) 9 rows ≡ sets before 0 (supervisor_table d) =
        sets_append before 0 (table_head d n) rows ∙ ap (λ (t : List ℕ). sets before 0 t) (solution_table solution) in
        rw (bytes, ← size_is, solution.numbering.counted)
        (judges_made supervisor_table state_count d before few (sym solution.start_kept ∙ e) (omega (arith, size_is)))

-- the same in a layout's numbers
pub layout_made : {s : List ℕ} {h : Sheet} → Fits s h
    → {n kept : ℕ} {start : Bool} {tuples cells dropped : List ℕ} → Solution (decoded s h) n kept start tuples cells dropped
    → (before : List ℕ) (ins outs size : ℕ) → ins ≡ 2 ^ h.inputs → outs ≡ 2 ^ h.outputs
    → start ≡ true → size ≡ mask_table_length ins n → size ≤ length before
    → Judges supervisor_table state_count (decoded s h) before (Ok (record { length = size; states = n }))
    (sets (sets before 0 (header 5 19 ++ (h.mode ∷ h.inputs ∷ h.outputs ∷ u16_bytes n))) 9 (cat n (table_row cells dropped ins outs)))
layout_made {s} {h} fits {n} {kept} {start} {tuples} {cells} {dropped} solution before ins outs size i o e is room =
    let ins_are : ins ≡ inputs_of (decoded s h) = i ∙ layout_inputs fits in
    let outs_are : outs ≡ outputs_of (decoded s h) = o ∙ layout_outputs s h in
    let whole : size ≡ mask_table_length (inputs_of (decoded s h)) n = is ∙ ap (λ (x : ℕ). mask_table_length x n) ins_are in
    rw (ins_are, outs_are, whole)
    (subst (λ (l : List ℕ). Judges supervisor_table state_count (decoded s h) before (Ok (record { length = mask_table_length (inputs_of (decoded s h)) n; states = n }))
    (sets (sets before 0 l) 9 (cat n (table_row cells dropped (inputs_of (decoded s h)) (outputs_of (decoded s h))))))
    (sym (layout_head fits n)) (solved_made solution before e (omega arith)))

-- ---- the promise

-- the whole promise, from the answer by the model
pub supervisor_makes : {s before : List ℕ} {r : Result Made Refusal} {after : List ℕ} (lent : List ℕ)
    → Answers supervisor_table state_count (long_enough supervisor_work lent) s before r after
    → Reads s (reading s) → Only s → MakesSupervisor s before lent r after
unfolding asked_bytes
supervisor_makes {s} {before} {r} {after} lent answers read only =
    record {
      makes = all;
      means = table_means;
      only = λ d a n table x. (only_table d x (table_means d a)).1;
      written = λ e d a.
          let w = all.written e d a.sheet in
          rw (w.count, written_front w) (table_means d a);
      work_bytes = omega arith;
    }
  where
    all : Makes supervisor_table state_count (long_enough supervisor_work lent) s before r after
    all = makes supervisor_table state_count answers read only

    table_means : (d : Decoded) → Accepted s d → Means d (state_count d) (supervisor_table d)
    table_means d a = means d (accepted_layout a) a.sheet.in_bounds a.realizable

-- the same of any bytes, by the laws of the reader
pub supervisor_promise : {s before : List ℕ} {r : Result Made Refusal} {after : List ℕ} (lent : List ℕ) → Bytes s
    → Answers supervisor_table state_count (long_enough supervisor_work lent) s before r after → MakesSupervisor s before lent r after
supervisor_promise {s} lent bytes answers = supervisor_makes lent answers (reads s bytes) (only_read s)

-- The maker's whole promise, from its answer by the model.
-- Assumes nothing.
use mathlib.Core.Path.{◌≡◌}
use mathlib.Core.Bool.{true}
use mathlib.Core.List.{List}
use Prim.Native.Nat.{ℕ}
use native.Mathlib.Omega.{arith}
use Rattle.std.specs.Prelude.{Result}
use Rattle.records.specs.Meaning.Limits.{horizon_ok}
use Rattle.records.specs.Meaning.Numbers.{Bytes}
use Rattle.records.specs.Meaning.Work.{long_enough, asked_bytes}
use Rattle.sheet.specs.Meaning.Decoded.{Decoded, SheetOk, input_lines}
use Rattle.sheet.specs.Model.Reader.{reading}
use Rattle.sheet.specs.Promises.Reader.{Reads}
use Rattle.sheet.specs.Laws.Reading.{reads}
use Rattle.solve.specs.Laws.RefusalOrder.{only_read}
use Rattle.solve.specs.Meaning.Allowed.{Accepted}
use Rattle.solve.specs.Model.Making.{Answers}
use Rattle.solve.specs.Promises.Making.{Makes}
use Rattle.solve.specs.Laws.Judging.{Only, makes, accepted_layout, written_front}
use Rattle.sheet.specs.declared.layout.Refusal.{Refusal}
use Rattle.solve.specs.declared.made.Made.{Made}
use Rattle.plan.specs.Laws.Solved.{sheet_horizon}
use Rattle.plan.specs.Model.GuardOfSheet.{guard_table_by, states_by, guard_table_of, states_of}
use Rattle.guard.specs.Promises.GuardMaker.{guard_work, Rows, MakesOver, MakesGuard}
use Rattle.guard.proofs.FaithfulTable.{faithful}
use Rattle.guard.specs.Laws.GuardRows.{table-rows, only_rows, narrow_rows}

-- a horizon that is found from the sheet keeps the bounds of sheets in bounds
abbrev InBounds : (Decoded → ℕ) → Type 0
InBounds horizon = (d : Decoded) → SheetOk d → horizon_ok (input_lines d) (horizon d) ≡ true

-- the whole promise, from the answer by the model
pub guard_makes : (horizon : Decoded → ℕ) → InBounds horizon → {s before : List ℕ} {r : Result Made Refusal} {after : List ℕ} (lent : List ℕ)
    → Answers (guard_table_by horizon) (states_by horizon) (long_enough guard_work lent) s before r after
    → Reads s (reading s) → Only s → MakesOver horizon s before lent r after
unfolding guard_table_by asked_bytes
guard_makes horizon near {s} {before} {r} {after} lent answers read only =
    record {
      makes = all;
      rows = rows;
      only = λ d a n table x.
          (only_rows d a.sheet.in_bounds (accepted_layout a) a.realizable (horizon d) x (rows d a)).1;
      narrow = λ d a states listed small n table x.
          narrow_rows d a.sheet.in_bounds (accepted_layout a) a.realizable (horizon d) states listed small x;
      written = λ e d a. let y = all.written e d a.sheet in rw (y.count, written_front y) (rows d a);
      faithful = λ e d a.
          rw (written_front (all.written e d a.sheet))
          (faithful d a.sheet.in_bounds (accepted_layout a) a.realizable (horizon d) (near d a.sheet.in_bounds));
      work_bytes = omega arith;
    }
  where
    all : Makes (guard_table_by horizon) (states_by horizon) (long_enough guard_work lent) s before r after
    all = makes (guard_table_by horizon) (states_by horizon) answers read only

    rows : (d : Decoded) → Accepted s d → Rows d (horizon d) (states_by horizon d) (guard_table_by horizon d)
    rows d a = table-rows d a.sheet.in_bounds (accepted_layout a) a.realizable (horizon d)

-- the maker's, of any bytes, by the laws of the reader
pub guard_promise : {s before : List ℕ} {r : Result Made Refusal} {after : List ℕ} (lent : List ℕ) → Bytes s
    → Answers guard_table_of states_of (long_enough guard_work lent) s before r after → MakesGuard s before lent r after
guard_promise {s} lent bytes answers =
    guard_makes (λ d. d.horizon) (λ d ok. sheet_horizon d ok.horizon) lent answers (reads s bytes) (only_read s)

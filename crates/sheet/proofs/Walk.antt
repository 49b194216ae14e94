-- The walk over the records after the head: its invariant, one record at a time, and what ends it.
-- Assumes nothing.
use mathlib.Core.Path.{◌≡◌, refl, sym, ◌∙◌}
use mathlib.Core.Bool.{Bool, true, false, cond}
use mathlib.Core.List.{List}
use Prim.Native.Nat.{ℕ, zero, suc, ◌+◌, ◌-◌, ◌≤◌, ◌<◌}
use native.Mathlib.Omega.{arith}
use lib.Dec.{leb, eqb}
use lib.ListN.{length}
use Rattle.std.specs.Prelude.{Some, None, Result, Ok, Err}
use Rattle.records.specs.Meaning.Records.{Found, read_at}
use Rattle.records.specs.Promises.Cursor.{Finds}
use Rattle.records.specs.Laws.Cursor.{lies}
use Rattle.records.specs.Meaning.Limits.{max_lines, max_monitors, horizon_ok}
use Rattle.records.specs.declared.cursor.Record.{Record}
use Rattle.records.specs.declared.cursor.Truncated.{Truncated}
use Rattle.sheet.specs.Meaning.Decoded.{guard_lines}
use Rattle.sheet.specs.Model.Layout.{with_monitor}
use Rattle.sheet_fields.specs.Meaning.Places.{mode_at, site_at, outputs_at, horizon_at}
use Rattle.sheet_fields.specs.Meaning.Head.{head_ok}
use Rattle.sheet_fields.specs.Meaning.Monitor.{monitor_ok}
use Rattle.sheet.specs.Model.HeadRecord.{head_sheet, read_head}
use Rattle.sheet.specs.Model.MonitorRecord.{monitor_at, take_monitor}
use Rattle.sheet.specs.Model.Reader.{take_record, on_found, read_records, first_found, reading}
use Rattle.sheet.specs.declared.layout.Sheet.{Sheet}
use Rattle.sheet.specs.declared.layout.Refusal.{Refusal}
use Rattle.sheet.specs.declared.layout.Refusal.TheVariants as refusal
use Rattle.sheet_fields.specs.Laws.FieldFacts.{head_facts}

-- the lines that monitors read: site lines and outputs
abbrev pub lines : Sheet → ℕ
lines h = h.site + h.outputs

never {ℓ} : {X : Type ℓ} {g : Refusal} {h : Sheet} → ◌≡◌ {A = Result Sheet Refusal} (Err g) (Ok h) → X
never e = absurd (let z : ◌≡◌ {A = ℕ} 0 1 = cc in omega arith)

-- a head that was accepted has at most six of them
pub head-lines : (s : List ℕ) (start size : ℕ) {h : Sheet} → read_head s start size ≡ Ok h → lines h ≤ max_lines
unfolding read_head head_sheet
head-lines s start size {h} e =
    go (head_ok s start size)
    (horizon_ok (guard_lines (mode_at s start) (site_at s start) (outputs_at s start)) (horizon_at s start))
    (λ t. (head_facts s start size t).lines_most) e
  where
    go : (a b : Bool) → (a ≡ true → lines (head_sheet s start) ≤ max_lines)
        → cond a (cond b (Ok (head_sheet s start)) (Err refusal.LongHorizon)) (Err refusal.BadHead) ≡ Ok h
        → lines h ≤ max_lines
    go true true f e = let q : head_sheet s start ≡ h = cc in rw (← q) (f refl)
    go true false f e = never e
    go false b f e = never e

-- a record that was accepted leaves them as they were
pub same_lines : (s : List ℕ) (h : Sheet) (r : Record) {h' : Sheet} → take_record s h r ≡ Ok h' → lines h' ≡ lines h
unfolding take_record take_monitor with_monitor
same_lines s h r {h'} e =
    go (eqb r.kind 2) (leb max_monitors h.count) (monitor_ok s h.mode h.site h.outputs r.start r.size) e
  where
    taken : Bool → Bool → Bool → Result Sheet Refusal
    taken a b d =
        cond a
        (cond b (Err refusal.SeventhMonitor) (cond d (Ok (with_monitor h (monitor_at s r.start))) (Err refusal.BadMonitor)))
        (Err refusal.Misplaced)

    go : (a b d : Bool) → taken a b d ≡ Ok h' → lines h' ≡ lines h
    go true true d e = never e
    go true false true e = let q : with_monitor h (monitor_at s r.start) ≡ h' = cc in rw (← q)
    go true false false e = never e
    go false b d e = never e

-- with fuel left the walk takes one record
unroll : (n : ℕ) (s : List ℕ) (h : Sheet) (at : ℕ) {x : Found} → read_at s at ≡ x → 0 < n
    → read_records n s h at ≡ on_found x (take_record s h) (λ h' at'. read_records (n - 1) s h' at') h
unfolding read_records
unroll zero s h at e l = absurd (omega arith)
unroll (suc n) s h at e l =
    let q : suc n - 1 ≡ n = omega arith in
    rw (e, q)

-- the walk from head and offset has come to a sheet and an offset: from there it gives the same
pub record Walked (s : List ℕ) (head : Sheet) (from : ℕ) (sheet : Sheet) (at : ℕ) : Type 0 where
  pub lines_most : lines sheet ≤ max_lines
  pub fuel : ℕ
  pub enough : length s - at < fuel
  pub same : read_records fuel s sheet at ≡ read_records (suc (length s)) s head from

pub begin : (s : List ℕ) (head : Sheet) (from : ℕ) → lines head ≤ max_lines → Walked s head from head from
begin s head from h = record { lines_most = h; fuel = suc (length s); enough = omega arith; same = refl }

-- what the cursor finds there
module _ {s : List ℕ} {head : Sheet} {from : ℕ} {sheet : Sheet} {at next : ℕ} (w : Walked s head from sheet at)
    {f : Found} (found : Finds s at next f) where
  -- the walk's answer by it
  step : {x : Found} → f ≡ x
      → on_found x (take_record s sheet) (λ h' at'. read_records (w.fuel - 1) s h' at') sheet ≡ read_records (suc (length s)) s head from
  step e = sym (unroll w.fuel s sheet at (sym found.whole ∙ e) (omega (arith, w.enough))) ∙ w.same

  pub ended : f ≡ Ok None → Ok sheet ≡ read_records (suc (length s)) s head from
  unfolding on_found
  ended e = step e

  pub cut : {t : Truncated} → f ≡ Err t → Err refusal.Truncated ≡ read_records (suc (length s)) s head from
  unfolding on_found
  cut e = step e

  -- a record, and what comes of it
  module _ {r : Record} (e : f ≡ Ok (Some r)) {a : Result Sheet Refusal} (taken : a ≡ take_record s sheet r) where
    pub stopped : {g : Refusal} → a ≡ Err g → Err g ≡ read_records (suc (length s)) s head from
    unfolding on_found
    stopped v = rw (← taken, v) at (step e)

    pub more : {h : Sheet} → a ≡ Ok h → Walked s head from h next
    unfolding on_found
    more v =
        let l = lies found e in
        record {
          lines_most = rw (same_lines s sheet r (sym taken ∙ v)) w.lines_most;
          fuel = w.fuel - 1;
          enough = omega (arith, w.enough);
          same = rw (← taken, v, ← l.is_next) at (step e);
        }

-- what the cursor finds first
module _ {s : List ℕ} {at next : ℕ} (z : at ≡ 0) {f : Found} (found : Finds s at next f) where
  first : {x : Found} → f ≡ x
      → first_found x (read_head s) (λ h at'. read_records (suc (length s)) s h at') ≡ reading s
  unfolding reading
  first e = rw (← e, found.whole, z)

  pub none_first : f ≡ Ok None → Err refusal.Misplaced ≡ reading s
  unfolding first_found
  none_first e = first e

  pub cut_first : {t : Truncated} → f ≡ Err t → Err refusal.Truncated ≡ reading s
  unfolding first_found
  cut_first e = first e

  module _ {r : Record} (e : f ≡ Ok (Some r)) where
    pub no_head : eqb r.kind 1 ≡ false → Err refusal.Misplaced ≡ reading s
    unfolding first_found
    no_head k = rw k at (first e)

    module _ (k : eqb r.kind 1 ≡ true) {a : Result Sheet Refusal} (taken : a ≡ read_head s r.start r.size) where
      pub bad_head : {g : Refusal} → a ≡ Err g → Err g ≡ reading s
      unfolding first_found
      bad_head v = rw (k, ← taken, v) at (first e)

      pub good_head : {h : Sheet} → a ≡ Ok h → read_records (suc (length s)) s h next ≡ reading s
      unfolding first_found
      good_head v = let l = lies found e in rw (k, ← taken, v, ← l.is_next) at (first e)

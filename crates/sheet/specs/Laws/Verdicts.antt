-- The reader's verdicts have document 01's numbers.
-- Assumes nothing.
use Rattle.std.specs.Prelude.{◌≡◌, refl, Bool, true, false, cond, List, ℕ, zero, suc, ◌+◌, ◌-◌, ◌≤◌, ◌<◌, eqb, length, Result, Ok, Err}
use Rattle.std.proofs.Common.{arith, le-leb, lt-ltb, le-ltb}
use Rattle.std.proofs.lemmas.Bool.{lt-leb}
use Rattle.records.specs.Laws.Tests.{by_test}
use Rattle.records.specs.Meaning.Records.{size_at, kind_at, body_at, end_at}
use Rattle.records.specs.Laws.Cursor.{read_cases}
use Rattle.records.specs.Meaning.Limits.{max_monitors, horizon_ok}
use Rattle.sheet_fields.specs.Meaning.Places.{mode_at, site_at, outputs_at, horizon_at}
use Rattle.sheet_fields.specs.Meaning.Lines.{guard_lines}
use Rattle.sheet_fields.specs.Meaning.Head.{head_ok}
use Rattle.sheet_fields.specs.Meaning.Monitor.{monitor_ok}
use Rattle.sheet.specs.Model.Layout.{with_monitor}
use Rattle.sheet.specs.Meaning.Grounds.{verdict_number}
use Rattle.sheet.specs.Model.HeadRecord.{head_sheet, read_head}
use Rattle.sheet.specs.Model.MonitorRecord.{monitor_at, take_monitor}
use Rattle.sheet.specs.Model.Reader.{after_record, take_record, on_found, read_records, first_found, reading}
use Rattle.sheet.specs.Meaning.Refusals.{unless, first_number, head_number, monitor_number, later_number, records_number, sheet_number}
use Rattle.sheet.specs.declared.layout.Monitor.{Monitor}
use Rattle.sheet.specs.declared.layout.Sheet.{Sheet}
use Rattle.sheet.specs.declared.layout.Refusal.TheVariants.{Misplaced, BadHead, BadMonitor, SeventhMonitor, LongHorizon}
use Rattle.sheet.specs.declared.layout.Refusal.{Refusal}

-- the number of a record's verdict, or else of what is read after it
abbrev pub chained : Result Sheet Refusal → (Sheet → Result Sheet Refusal) → ℕ
chained r next = verdict_number (after_record r next)

-- a layout with the numbers of the head whose body begins at `head`, and with room for so many monitors more
record Under (s : List ℕ) (head room : ℕ) (h : Sheet) : Type 0 where
  mode : h.mode ≡ mode_at s head
  site : h.site ≡ site_at s head
  outputs : h.outputs ≡ outputs_at s head
  count : h.count + room ≡ max_monitors

under_head : (s : List ℕ) (head : ℕ) → Under s head max_monitors (head_sheet s head)
unfolding head_sheet
under_head s head = record { mode = refl; site = refl; outputs = refl; count = refl }

under_more : {s : List ℕ} {head room : ℕ} {h : Sheet} → Under s head (suc room) h → (m : Monitor) → Under s head room (with_monitor h m)
unfolding with_monitor
under_more u m = record { mode = u.mode; site = u.site; outputs = u.outputs; count = omega (arith, u.count) }

-- ---- a record after the head

-- with no room for a monitor
take_none : (s : List ℕ) (head : ℕ) (h : Sheet) (kind start size : ℕ) (next : Sheet → Result Sheet Refusal) → Under s head zero h
    → chained (take_record s h (record { kind = kind; start = start; size = size })) next ≡ unless (eqb kind 2) 2 5
unfolding take_record take_monitor
take_none s head h kind start size next u = rw (le-leb max_monitors h.count (omega (arith, u.count))) (go (eqb kind 2))
  where
    go : (a : Bool) → chained (cond a (Err SeventhMonitor) (Err Misplaced)) next ≡ unless a 2 5
    go true = refl
    go false = refl

-- the body's number, by the numbers of the layout
body_number : (s : List ℕ) (head room : ℕ) (h : Sheet) (start size : ℕ) → Under s head room h
    → monitor_number s head start size ≡ unless (monitor_ok s h.mode h.site h.outputs start size) 4 0
unfolding monitor_number
body_number s head room h start size u = rw (u.mode, u.site, u.outputs)

-- with room for one: if accepted, the layout has it, and the next record is read
take_one : (s : List ℕ) (head room : ℕ) (h : Sheet) (kind start size : ℕ) (next : Sheet → Result Sheet Refusal) → Under s head (suc room) h
    → chained (take_record s h (record { kind = kind; start = start; size = size })) next
    ≡ unless (eqb kind 2) 2 (first_number (monitor_number s head start size)
    (verdict_number (next (with_monitor h (monitor_at s start)))))
unfolding take_record take_monitor
take_one s head room h kind start size next u =
    rw (lt-leb max_monitors h.count (omega (arith, u.count)), body_number s head (suc room) h start size u)
    (go (eqb kind 2) (monitor_ok s h.mode h.site h.outputs start size))
  where
    go : (a b : Bool)
        → chained (cond a (cond b (Ok (with_monitor h (monitor_at s start))) (Err BadMonitor)) (Err Misplaced)) next
        ≡ unless a 2 (first_number (unless b 4 0) (verdict_number (next (with_monitor h (monitor_at s start)))))
    go true true = refl
    go true false = refl
    go false b = refl

-- the end of the bytes, a record that is cut, or one that is judged by its kind and body
read_later : (n : ℕ) (s : List ℕ) (h : Sheet) (at monitor : ℕ)
    → (end_at s at ≤ length s
    → chained (take_record s h (record { kind = kind_at s at; start = body_at at; size = size_at s at })) (λ h'. read_records n s h' (end_at s at))
    ≡ unless (eqb (kind_at s at) 2) 2 monitor)
    → verdict_number (read_records (suc n) s h at) ≡ later_number s at monitor
unfolding read_records on_found
read_later n s h at monitor e =
    read_cases s at
    (λ f m. rw (f, le-leb (length s) at m))
    (λ f m. rw (f, lt-leb (length s) at m))
    (λ f m. rw (f, lt-leb (length s) at (omega arith)) (e m))

-- the records after the head; the fuel is enough for the bytes that are left
records_number_lem : (n room : ℕ) (s : List ℕ) (head : ℕ) (h : Sheet) (at : ℕ) → Under s head room h → length s - at < n
    → verdict_number (read_records n s h at) ≡ records_number room s head at
unfolding records_number
records_number_lem zero room s head h at u l = absurd (omega arith)
records_number_lem (suc n) zero s head h at u l =
    read_later n s h at 5
    (λ m. take_none s head h (kind_at s at) (body_at at) (size_at s at) (λ h'. read_records n s h' (end_at s at)) u)
records_number_lem (suc n) (suc room) s head h at u l =
    let grown : Sheet = with_monitor h (monitor_at s (body_at at)) in
    read_later n s h at (first_number (monitor_number s head (body_at at) (size_at s at)) (records_number room s head (end_at s at)))
    (λ m.
    let more : verdict_number (read_records n s grown (end_at s at)) ≡ records_number room s head (end_at s at) =
    records_number_lem n room s head grown (end_at s at) (under_more u (monitor_at s (body_at at))) (omega arith) in
    rw (← more) (take_one s head room h (kind_at s at) (body_at at) (size_at s at) (λ h'. read_records n s h' (end_at s at)) u))

-- ---- the head

-- an accepted one gives its layout
head_number_lem : (s : List ℕ) (start size : ℕ) (next : Sheet → Result Sheet Refusal)
    → chained (read_head s start size) next
    ≡ first_number (head_number s start size) (verdict_number (next (head_sheet s start)))
unfolding read_head head_number
head_number_lem s start size next =
    go (head_ok s start size) (horizon_ok (guard_lines (mode_at s start) (site_at s start) (outputs_at s start)) (horizon_at s start))
  where
    go : (a b : Bool)
        → chained (cond a (cond b (Ok (head_sheet s start)) (Err LongHorizon)) (Err BadHead)) next
        ≡ first_number (unless a 3 (unless b 6 0)) (verdict_number (next (head_sheet s start)))
    go true true = refl
    go true false = refl
    go false b = refl

-- every verdict has the number that document 01 gives the sheet
pub verdict_number_lem : (s : List ℕ) → verdict_number (reading s) ≡ sheet_number s
unfolding reading sheet_number first_found
verdict_number_lem s =
    read_cases s 0
    (λ f m. rw (f, le-ltb 0 (length s) m))
    (λ f m. rw f)
    (λ f m.
    let more : verdict_number (read_records (suc (length s)) s (head_sheet s (body_at 0)) (end_at s 0))
    ≡ records_number max_monitors s (body_at 0) (end_at s 0) =
    records_number_lem (suc (length s)) max_monitors s (body_at 0) (head_sheet s (body_at 0)) (end_at s 0) (under_head s (body_at 0)) (omega arith) in
    rw (f, lt-ltb 0 (length s) (omega arith))
    (by_test (eqb (kind_at s 0) 1)
    (λ e. rw (e, head_number_lem s (body_at 0) (size_at s 0) (λ h. read_records (suc (length s)) s h (end_at s 0)), more))
    (λ e. rw e)))

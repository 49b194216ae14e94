-- The model of the reader: records in turn, each judged whole before the next one's length is looked at.
-- Assumes nothing.
use Rattle.std.specs.Prelude.{cond, List, ℕ, zero, suc, ◌+◌, eqb, length, Some, None, Result, Ok, Err}
use Rattle.records.specs.Meaning.Records.{Found, read_at}
use Rattle.records.specs.declared.cursor.Record.{Record}
use Rattle.sheet.specs.Model.HeadRecord.{read_head}
use Rattle.sheet.specs.Model.MonitorRecord.{take_monitor}
use Rattle.sheet.specs.declared.layout.Sheet.{Sheet}
use Rattle.sheet.specs.declared.layout.Refusal.{Refusal}
use Rattle.sheet.specs.declared.layout.Refusal.TheVariants.{Truncated, Misplaced}

-- how the reader goes on from an accepted record
abbrev pub after_record : Result Sheet Refusal → (Sheet → Result Sheet Refusal) → Result Sheet Refusal
after_record (Ok h) next = next h
after_record (Err g) next = Err g

-- a record after the head
unfoldable pub take_record : List ℕ → Sheet → Record → Result Sheet Refusal
take_record s h r = cond (eqb r.kind 2) (take_monitor s h r.start r.size) (Err Misplaced)

-- the records from an offset on, for at most n of them; what follows an accepted one is only looked at then
unfoldable pub on_found : Found → (Record → Result Sheet Refusal) → (Sheet → ℕ → Result Sheet Refusal) → Sheet
    → Result Sheet Refusal
on_found (Ok None) take next h = Ok h
on_found (Err e) take next h = Err Truncated
on_found (Ok (Some r)) take next h = after_record (take r) (λ h'. next h' (r.start + r.size))

unfoldable pub read_records : ℕ → List ℕ → Sheet → ℕ → Result Sheet Refusal
read_records zero s h at = Err Truncated
read_records (suc n) s h at = on_found (read_at s at) (take_record s h) (λ h' at'. read_records n s h' at') h

-- the first record is a head
unfoldable pub first_found : Found → (ℕ → ℕ → Result Sheet Refusal) → (Sheet → ℕ → Result Sheet Refusal)
    → Result Sheet Refusal
first_found (Ok None) take next = Err Misplaced
first_found (Err e) take next = Err Truncated
first_found (Ok (Some r)) take next =
    cond (eqb r.kind 1) (after_record (take r.start r.size) (λ h'. next h' (r.start + r.size))) (Err Misplaced)

-- the whole sheet; each record takes four bytes or more, so its length is fuel enough
unfoldable pub reading : List ℕ → Result Sheet Refusal
reading s = first_found (read_at s 0) (read_head s) (λ h at. read_records (suc (length s)) s h at)

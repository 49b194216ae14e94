-- The number that is due for a sheet's records is at most 6: the grounds after it are other calls' affair.
-- Assumes nothing.
use Rattle.std.specs.Prelude.{Bool, true, false, cond, List, ℕ, zero, suc, ◌≤◌, eqb, ltb, leb, length, Ok, Err}
use Rattle.std.proofs.Common.{arith}
use Rattle.records.specs.Meaning.Records.{Found, read_at, found_number, size_at, kind_at, body_at, end_at}
use Rattle.records.specs.Meaning.Limits.{max_monitors, horizon_ok}
use Rattle.sheet_fields.specs.Meaning.Places.{mode_at, site_at, outputs_at, horizon_at}
use Rattle.sheet_fields.specs.Meaning.Lines.{guard_lines}
use Rattle.sheet_fields.specs.Meaning.Head.{head_ok}
use Rattle.sheet_fields.specs.Meaning.Monitor.{monitor_ok}
use Rattle.sheet.specs.Meaning.Refusals.{first_number, head_number, monitor_number, later_number, records_number, sheet_number}

either : (b : Bool) (x y : ℕ) → x ≤ 6 → y ≤ 6 → cond b x y ≤ 6
either true x y h k = h
either false x y h k = k

firstly : (x y : ℕ) → x ≤ 6 → y ≤ 6 → first_number x y ≤ 6
firstly zero y h k = k
firstly (suc x) y h k = h

found_most : (f : Found) → found_number f ≤ 6
found_most (Ok r) = omega arith
found_most (Err e) = omega arith

head_most : (s : List ℕ) (start size : ℕ) → head_number s start size ≤ 6
unfolding head_number
head_most s start size =
    either (head_ok s start size) _ 3
    (either (horizon_ok (guard_lines (mode_at s start) (site_at s start) (outputs_at s start)) (horizon_at s start)) 0 6 (omega arith)
    (omega arith))
    (omega arith)

monitor_most : (s : List ℕ) (head start size : ℕ) → monitor_number s head start size ≤ 6
unfolding monitor_number
monitor_most s head start size =
    either (monitor_ok s (mode_at s head) (site_at s head) (outputs_at s head) start size) 0 4 (omega arith) (omega arith)

later_most : (s : List ℕ) (at monitor : ℕ) → monitor ≤ 6 → later_number s at monitor ≤ 6
later_most s at monitor h =
    either (leb (length s) at) 0 _ (omega arith)
    (firstly _ _ (found_most (read_at s at)) (either (eqb (kind_at s at) 2) monitor 2 h (omega arith)))

records_most : (room : ℕ) (s : List ℕ) (head at : ℕ) → records_number room s head at ≤ 6
unfolding records_number
records_most zero s head at = later_most s at 5 (omega arith)
records_most (suc room) s head at =
    later_most s at _ (firstly _ _ (monitor_most s head (body_at at) (size_at s at)) (records_most room s head (end_at s at)))

pub number_most : (s : List ℕ) → sheet_number s ≤ 6
unfolding sheet_number
number_most s =
    firstly _ _ (found_most (read_at s 0))
    (either (ltb 0 (length s)) _ 2
    (either (eqb (kind_at s 0) 1) _ 2
    (firstly _ _ (head_most s (body_at 0) (size_at s 0)) (records_most max_monitors s (body_at 0) (end_at s 0))) (omega arith)) (omega arith))

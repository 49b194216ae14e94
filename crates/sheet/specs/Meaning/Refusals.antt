-- Grounds 1 to 6 by document 01's numbers, 0 for none. Records in turn: in each 1, then 2, then 5, then 3 and 6 (a head) or 4 (a
-- monitor). Nothing here speaks of the layout that a reader keeps.
-- Assumes nothing.
use Rattle.std.specs.Prelude.{Bool, cond, List, ℕ, zero, suc, ltb, leb, eqb, length}
use Rattle.records.specs.Meaning.Records.{read_at, found_number, size_at, kind_at, body_at, end_at}
use Rattle.records.specs.Meaning.Limits.{max_monitors, horizon_ok}
use Rattle.sheet_fields.specs.Meaning.Places.{mode_at, site_at, outputs_at, horizon_at}
use Rattle.sheet_fields.specs.Meaning.Lines.{guard_lines}
use Rattle.sheet_fields.specs.Meaning.Head.{head_ok}
use Rattle.sheet_fields.specs.Meaning.Monitor.{monitor_ok}

-- the ground's number where its test is not passed, else what is due after it
abbrev pub unless : Bool → ℕ → ℕ → ℕ
unless passed cause later = cond passed later cause

-- the number, or what is due after it
abbrev pub first_number : ℕ → ℕ → ℕ
first_number zero later = later
first_number (suc n) later = suc n

-- ---- the body of a record

-- a head's
unfoldable pub head_number : List ℕ → ℕ → ℕ → ℕ
head_number s start size =
    -- 3: head length or field wrong, H aside
    unless (head_ok s start size) 3
    -- 6: H above 24, or inputs × H above 24
    (unless (horizon_ok (guard_lines (mode_at s start) (site_at s start) (outputs_at s start)) (horizon_at s start)) 6 0)

-- a monitor's, under the head whose body begins at `head`
unfoldable pub monitor_number : List ℕ → ℕ → ℕ → ℕ → ℕ
monitor_number s head start size =
    -- 4: monitor length or field wrong
    unless (monitor_ok s (mode_at s head) (site_at s head) (outputs_at s head) start size) 4 0

-- ---- records in turn

-- a record after the head, if there is one, and what is due if it is a monitor
abbrev pub later_number : List ℕ → ℕ → ℕ → ℕ
later_number s at monitor =
    cond (leb (length s) at) 0
    -- 1: 1 to 3 bytes left for a record, or its body runs past the end
    (first_number (found_number (read_at s at))
    -- 2: a second head, unknown kind
    (unless (eqb (kind_at s at) 2) 2 monitor))

-- the records from `at` on, where so many monitors may still come
unfoldable pub records_number : ℕ → List ℕ → ℕ → ℕ → ℕ
-- 5: a seventh monitor
records_number zero s head at = later_number s at 5
-- 4, then the records after this one
records_number (suc room) s head at =
    later_number s at (first_number (monitor_number s head (body_at at) (size_at s at)) (records_number room s head (end_at s at)))

-- the whole sheet
unfoldable pub sheet_number : List ℕ → ℕ
sheet_number s =
    -- 1: 1 to 3 bytes left for a record, or its body runs past the end
    first_number (found_number (read_at s 0))
    -- 2: no record, first not a head
    (unless (ltb 0 (length s)) 2
    (unless (eqb (kind_at s 0) 1) 2
    -- 3, then 6, then the records after the head
    (first_number (head_number s (body_at 0) (size_at s 0)) (records_number max_monitors s (body_at 0) (end_at s 0)))))

-- Records: a two-byte length of the body, a two-byte kind, then the body; and what stands at a place of a list of them.
-- Assumes nothing.
use Rattle.std.specs.Prelude.{Bool, cond, ◌&&◌, ◌||◌, List, ◌++◌, ℕ, ◌+◌, ◌-◌, ltb, leb, length, Option, Some, None, Result, Ok, Err}
use Rattle.records.specs.Meaning.Numbers.{u16_at, u16_bytes}
use Rattle.records.specs.declared.cursor.Record.{Record}
use Rattle.records.specs.declared.cursor.Truncated.{Truncated}

-- a record's bytes before its body
abbrev pub header : ℕ → ℕ → List ℕ
header size kind = u16_bytes size ++ u16_bytes kind

abbrev pub header_size : ℕ
header_size = 4

-- the record that begins at an offset: the size of its body, its kind, where its body begins, and where it ends
abbrev pub size_at : List ℕ → ℕ → ℕ
size_at s at = u16_at s at

abbrev pub kind_at : List ℕ → ℕ → ℕ
kind_at s at = u16_at s (at + 2)

abbrev pub body_at : ℕ → ℕ
body_at at = at + header_size

abbrev pub end_at : List ℕ → ℕ → ℕ
end_at s at = body_at at + size_at s at

-- what a cursor finds: a record, or nothing at the end; or it says that a record is cut
abbrev pub Found : Type 0
Found = Result (Option Record) Truncated

-- where a record lies inside the bytes
abbrev pub record_at : List ℕ → ℕ → Found
record_at s at = Ok (Some (record { kind = kind_at s at; start = body_at at; size = size_at s at }))

-- the end; too few bytes for a record; or a record
unfoldable pub read_at : List ℕ → ℕ → Found
read_at s at =
    cond (leb (length s) at) (Ok None)
    (cond (ltb (length s - at) header_size) (Err (record {}))
    (cond (ltb (length s - body_at at) (size_at s at)) (Err (record {})) (record_at s at)))

-- where the cursor stands then: past the record that it found, else where it stood
abbrev pub past : Found → ℕ → ℕ
past (Ok (Some r)) at = r.start + r.size
past (Ok None) at = at
past (Err e) at = at

-- ground 1: 1 to 3 bytes left for a record, or its body runs past the end
unfoldable pub is_cut : List ℕ → ℕ → Bool
is_cut s at = ltb at (length s) && (ltb (length s) (body_at at) || ltb (length s) (end_at s at))

-- document 01's number of what was found, 0 for no refusal
abbrev pub found_number : Found → ℕ
found_number (Ok r) = 0
found_number (Err e) = 1

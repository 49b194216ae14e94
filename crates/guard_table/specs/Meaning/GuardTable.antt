-- The bytes of a guard table (documents 01 and 02): a head, then a row for each state, with an entry for each input.
-- Assumes nothing.
use Rattle.std.specs.Prelude.{List, ◌∷◌, ◌++◌, Bool, cond, ◌&&◌, ◌||◌, ℕ, ◌+◌, ◌*◌, ◌^◌, leb, eqb, length, get_or}
use Rattle.records.specs.Meaning.Lists.{cat}
use Rattle.records.specs.Meaning.Numbers.{u16_at, u16_bytes}
use Rattle.records.specs.Meaning.Records.{header, header_size}
use Rattle.guard_table.specs.Meaning.RowKind.{kind_number, kind_for, entry_width, next_bytes, next_at}
use Rattle.guard_table.specs.declared.kind.RowKind.{RowKind}
use Rattle.guard_table.specs.declared.kind.RowKind.TheVariants.{Narrow, Wide}

-- ---- sizes

abbrev pub head_kind : ℕ
head_kind = 16

-- the head's body: mode, input lines, output lines, horizon, and the count of states in two bytes
abbrev pub head_size : ℕ
head_size = 6

-- a row's body
abbrev pub row_size : RowKind → ℕ → ℕ
row_size kind inputs = entry_width kind * 2 ^ inputs

-- the records of the head and of a row
abbrev pub head_length : ℕ
head_length = header_size + head_size

unfoldable pub row_length : RowKind → ℕ → ℕ
row_length kind inputs = header_size + row_size kind inputs

-- a table with its head, with rows of a kind
unfoldable pub length_in : RowKind → ℕ → ℕ → ℕ
length_in kind inputs count = head_length + count * row_length kind inputs

-- and the guard's, with rows of the kind for its count
abbrev pub table_length : ℕ → ℕ → ℕ
table_length inputs count = length_in (kind_for count) inputs count

-- ---- places

-- where the row of a state begins
unfoldable pub row_at : RowKind → ℕ → ℕ → ℕ
row_at kind inputs place = head_length + place * row_length kind inputs

-- where the entry of a state and an input stands
unfoldable pub entry_at : RowKind → ℕ → ℕ → ℕ → ℕ
entry_at kind inputs place input = row_at kind inputs place + (header_size + entry_width kind * input)

-- ---- reading

-- the head's fields
abbrev pub head_mode : List ℕ → ℕ
head_mode t = get_or t 4 0

abbrev pub head_inputs : List ℕ → ℕ
head_inputs t = get_or t 5 0

abbrev pub head_outputs : List ℕ → ℕ
head_outputs t = get_or t 6 0

abbrev pub head_horizon : List ℕ → ℕ
head_horizon t = get_or t 7 0

abbrev pub head_count : List ℕ → ℕ
head_count t = u16_at t 8

-- a record's header has this size and this kind
unfoldable pub header_is : List ℕ → ℕ → ℕ → ℕ → Bool
header_is t at size kind = eqb (u16_at t at) size && eqb (u16_at t (at + 2)) kind

-- the first row's kind, in the two bytes after its size; a slice shows it up to here
abbrev pub first_kind : List ℕ → ℕ
first_kind t = u16_at t 12

abbrev pub shown_length : ℕ
shown_length = 14

-- the slice is long enough to show the kind, and shows one of the two
unfoldable pub shows_kind : List ℕ → Bool
shows_kind t = leb shown_length (length t) && (eqb (first_kind t) (kind_number Narrow) || eqb (first_kind t) (kind_number Wide))

-- that kind, by which every row is read
unfoldable pub kind_of : List ℕ → RowKind
kind_of t = cond (eqb (first_kind t) (kind_number Wide)) Wide Narrow

-- the entry of a state and an input: its output, and its next state
unfoldable pub output_in : List ℕ → ℕ → ℕ → ℕ → ℕ
output_in t inputs place input = get_or t (entry_at (kind_of t) inputs place input) 0

unfoldable pub next_in : List ℕ → ℕ → ℕ → ℕ → ℕ
next_in t inputs place input = next_at (kind_of t) t (entry_at (kind_of t) inputs place input + 1)

-- ---- writing

-- the head
abbrev pub guard_head : ℕ → ℕ → ℕ → ℕ → ℕ → List ℕ
guard_head mode inputs outputs horizon count = header head_size head_kind ++ (mode ∷ inputs ∷ outputs ∷ horizon ∷ u16_bytes count)

-- an entry
abbrev pub guard_entry : RowKind → ℕ → ℕ → List ℕ
guard_entry kind output next = output ∷ next_bytes kind next

-- the row of a state whose entry at input i is `out i` and `next i`
unfoldable pub guard_row : RowKind → ℕ → (ℕ → ℕ) → (ℕ → ℕ) → List ℕ
guard_row kind inputs out next =
    header (row_size kind inputs) (kind_number kind) ++ cat (2 ^ inputs) (λ i. guard_entry kind (out i) (next i))

-- a whole table with rows of a kind
unfoldable pub table_in : RowKind → ℕ → ℕ → ℕ → ℕ → ℕ → (ℕ → ℕ → ℕ) → (ℕ → ℕ → ℕ) → List ℕ
table_in kind mode inputs outputs horizon count out next =
    guard_head mode inputs outputs horizon count ++ cat count (λ k. guard_row kind inputs (out k) (next k))

-- the guard's table: up to 256 states have narrow rows, more have wide ones
abbrev pub guard_table : ℕ → ℕ → ℕ → ℕ → ℕ → (ℕ → ℕ → ℕ) → (ℕ → ℕ → ℕ) → List ℕ
guard_table mode inputs outputs horizon count = table_in (kind_for count) mode inputs outputs horizon count

-- The two kinds of rows that a guard table may have (documents 01 and 02): they differ in how an entry's next state is written.
-- Assumes nothing.
use Rattle.std.specs.Prelude.{cond, List, [], ◌∷◌, ℕ, leb, get_or}
use Rattle.records.specs.Meaning.Limits.{max_states}
use Rattle.records.specs.Meaning.Numbers.{u16_at, u16_bytes}
use Rattle.guard_table.specs.declared.kind.RowKind.{RowKind}
use Rattle.guard_table.specs.declared.kind.RowKind.TheVariants.{Narrow, Wide}

-- the kind's number in a row's header
abbrev pub kind_number : RowKind → ℕ
kind_number Narrow = 17
kind_number Wide = 20

-- a narrow row can name so many states
abbrev pub narrow_most : ℕ
narrow_most = 256

-- a table with rows of the kind has at most so many
abbrev pub states_most : RowKind → ℕ
states_most Narrow = narrow_most
states_most Wide = max_states

-- the kind of the rows of a guard with so many states
unfoldable pub kind_for : ℕ → RowKind
kind_for count = cond (leb count narrow_most) Narrow Wide

-- the bytes of an entry: one for the output, and one or two for the next state
abbrev pub entry_width : RowKind → ℕ
entry_width Narrow = 2
entry_width Wide = 3

-- the next state, written and read
abbrev pub next_bytes : RowKind → ℕ → List ℕ
next_bytes Narrow next = next ∷ []
next_bytes Wide next = u16_bytes next

abbrev pub next_at : RowKind → List ℕ → ℕ → ℕ
next_at Narrow t at = get_or t at 0
next_at Wide t at = u16_at t at

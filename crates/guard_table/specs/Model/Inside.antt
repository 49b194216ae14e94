-- What the code takes for granted of a slice: that it is as long as a table, that a row or an entry lies inside it.
-- Assumes nothing.
use Rattle.std.specs.Prelude.{◌≡◌, List, ℕ, ◌+◌, ◌*◌, ◌^◌, ◌≤◌, ◌<◌, length}
use Rattle.records.specs.Meaning.Limits.{max_inputs, max_ins, max_states}
use Rattle.records.specs.Meaning.Records.{header_size}
use Rattle.guard_table.specs.Meaning.RowKind.{entry_width}
use Rattle.guard_table.specs.Meaning.GuardTable.{head_length, row_length, length_in, row_at, entry_at, kind_of, next_in}
use Rattle.guard_table.specs.declared.kind.RowKind.{RowKind}
use Rattle.guard_table.specs.declared.kind.RowKind.TheVariants.{Wide}

-- no row's body is longer: all inputs, in wide entries
abbrev pub row_most : ℕ
row_most = entry_width Wide * max_ins

-- and no table: all states
abbrev pub table_most : ℕ
table_most = head_length + max_states * (header_size + row_most)

-- as long as a table with so many states, which are in bounds, by the rows that it shows
pub record Sized (t : List ℕ) (inputs count : ℕ) : Type 0 where
  pub inputs_most : inputs ≤ max_inputs
  pub count_most : count ≤ max_states
  pub fills : length t ≡ length_in (kind_of t) inputs count

-- and every next state is one of its own
pub record Closed (t : List ℕ) (inputs count : ℕ) : Type 0 where
  pub sized : Sized t inputs count
  pub next_low : (place input : ℕ) → place < count → input < 2 ^ inputs → next_in t inputs place input < count

-- the row of a state lies inside, in rows of a kind
pub record RowInside (t : List ℕ) (kind : RowKind) (inputs place : ℕ) : Type 0 where
  pub inputs_most : inputs ≤ max_inputs
  pub place_most : place ≤ max_states
  pub ends : row_at kind inputs place + row_length kind inputs ≤ length t

-- the entry of a state and an input lies inside, by the rows that the table shows
pub record Inside (t : List ℕ) (inputs place input : ℕ) : Type 0 where
  pub inputs_most : inputs ≤ max_inputs
  pub place_most : place ≤ max_states
  pub low : input < 2 ^ inputs
  pub ends : entry_at (kind_of t) inputs place input + entry_width (kind_of t) ≤ length t

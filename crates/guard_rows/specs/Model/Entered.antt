-- The entries that the code writes, read from work memory, and what reading them relies on.
-- The chosen outputs of a guard state are one number, its row: a digit for each input, the lowest first.
-- Assumes nothing.
use Rattle.std.specs.Prelude.{List, ℕ, ◌+◌, ◌-◌, ◌*◌, ◌≤◌, ◌<◌, length, get_or}
use Rattle.records.specs.Meaning.Limits.{max_states, max_outs}
use Rattle.records.specs.Model.Digits.{digit}
use Rattle.guard_table.specs.Meaning.RowKind.{states_most, kind_for}
use Rattle.guard_table.specs.Meaning.GuardTable.{guard_row, guard_table}
use Rattle.guard_table.specs.declared.kind.RowKind.{RowKind}
use Rattle.values.specs.Model.Values.{Game, cell_next}

-- ---- an entry

-- the output of a row at input i
abbrev pub output_by : ℕ → ℕ → ℕ
output_by row i = digit max_outs row i

-- the state after it, of product state k
abbrev pub next_by : Game → ℕ → ℕ → ℕ → ℕ
next_by g row k i = cell_next g k i (output_by row i)

-- and its number in the guard, where `numbers` has for each product state its number and 1 more
unfoldable pub numbered : Game → ℕ → List ℕ → ℕ → ℕ → ℕ
numbered g row numbers k i = get_or numbers (next_by g row k i) 0 - 1

-- the row of product state k in the table, in a kind of rows
abbrev pub guard_row_by : RowKind → ℕ → Game → ℕ → List ℕ → ℕ → List ℕ
guard_row_by kind lines g row numbers k = guard_row kind lines (output_by row) (numbered g row numbers k)

-- a table of the entries of the product states in `order`, by their rows
abbrev pub table_by : ℕ → ℕ → ℕ → ℕ → ℕ → Game → List ℕ → List ℕ → List ℕ → List ℕ
table_by mode lines outs horizon count g rows order numbers =
    guard_table mode lines outs horizon count (λ j. output_by (get_or rows j 0))
    (λ j. numbered g (get_or rows j 0) numbers (get_or order j 0))

-- ---- what the code relies on

-- product state k has its steps in the table, and its row's outputs lead to states that have numbers, which the rows can name
pub record Entered (kind : RowKind) (g : Game) (row : ℕ) (numbers : List ℕ) (k : ℕ) : Type 0 where
  pub steps : k * (g.ins * g.outs) + g.ins * g.outs ≤ length g.cells
  pub output : (i : ℕ) → i < g.ins → output_by row i < g.outs
  pub room : (i : ℕ) → i < g.ins → next_by g row k i < length numbers
  pub least : (i : ℕ) → i < g.ins → 1 ≤ get_or numbers (next_by g row k i) 0
  pub most : (i : ℕ) → i < g.ins → get_or numbers (next_by g row k i) 0 ≤ states_most kind

-- so has each of `count` guard states
pub record Tabled (g : Game) (rows order numbers : List ℕ) (count : ℕ) : Type 0 where
  pub few : count ≤ max_states
  pub rows_room : count ≤ length rows
  pub order_room : count ≤ length order
  pub entered : (j : ℕ) → j < count → Entered (kind_for count) g (get_or rows j 0) numbers (get_or order j 0)

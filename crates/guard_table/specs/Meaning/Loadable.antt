-- A table to load (documents 01 and 02).
-- Assumes nothing.
use Rattle.std.specs.Prelude.{Bool, ◌&&◌, List, ℕ, ◌^◌, ltb, leb, eqb, length}
use Rattle.records.specs.Meaning.Bounded.{all}
use Rattle.records.specs.Meaning.Limits.{lines_ok, horizon_ok}
use Rattle.guard_table.specs.Meaning.RowKind.{kind_number, states_most}
use Rattle.guard_table.specs.Meaning.GuardTable.{head_kind, head_size, row_size, length_in, row_at, head_mode, head_inputs, head_outputs, head_horizon, head_count, header_is, shows_kind, kind_of, output_in, next_in}
use Rattle.guard_table.specs.declared.kind.RowKind.{RowKind}

-- ---- the head: its kind, its fields in bounds, the count as the rows' kind allows, and the rows fill the rest of the slice exactly

unfoldable pub size_ok : RowKind → ℕ → ℕ → ℕ → Bool
size_ok kind inputs count size = leb 1 count && (leb count (states_most kind) && eqb size (length_in kind inputs count))

unfoldable pub fields_ok : RowKind → ℕ → ℕ → ℕ → ℕ → ℕ → ℕ → Bool
fields_ok kind mode inputs outputs horizon count size =
    lines_ok mode inputs outputs && (horizon_ok inputs horizon && size_ok kind inputs count size)

unfoldable pub table_head_ok : List ℕ → Bool
table_head_ok t =
    shows_kind t
    && (header_is t 0 head_size head_kind
    && fields_ok (kind_of t) (head_mode t) (head_inputs t) (head_outputs t) (head_horizon t) (head_count t) (length t))

-- ---- the rows: all of the first one's kind, and for each input an output below 2^outputs and a next state below count

unfoldable pub entry_ok : ℕ → ℕ → ℕ → ℕ → Bool
entry_ok output next outputs count = ltb output (2 ^ outputs) && ltb next count

unfoldable pub entries_ok : List ℕ → ℕ → ℕ → ℕ → ℕ → Bool
entries_ok t inputs outputs count place = all (2 ^ inputs) (λ i. entry_ok (output_in t inputs place i) (next_in t inputs place i) outputs count)

unfoldable pub row_ok : List ℕ → ℕ → ℕ → ℕ → ℕ → Bool
row_ok t inputs outputs count place =
    header_is t (row_at (kind_of t) inputs place) (row_size (kind_of t) inputs) (kind_number (kind_of t)) && entries_ok t inputs outputs count place

unfoldable pub rows_ok : List ℕ → ℕ → ℕ → ℕ → Bool
rows_ok t inputs outputs count = all count (row_ok t inputs outputs count)

unfoldable pub loadable : List ℕ → Bool
loadable t = table_head_ok t && rows_ok t (head_inputs t) (head_outputs t) (head_count t)

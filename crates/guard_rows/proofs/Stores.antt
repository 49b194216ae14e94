-- Stores that the table writer makes: an entry, a row, a table.
-- Assumes nothing.
use mathlib.Core.Path.{◌≡◌, ap, ap₂, ◌∙◌}
use mathlib.Core.List.{List, ◌++◌}
use Prim.Native.Nat.{ℕ, ◌+◌, ◌*◌, ◌^◌}
use lib.ListN.{get_or}
use lib.Seq.{sets}
use Rattle.records.specs.Meaning.Lists.{cat}
use Rattle.records.specs.Laws.Lists.{sets_append}
use Rattle.records.specs.Meaning.Records.{header}
use Rattle.guard_table.specs.Meaning.RowKind.{kind_number, kind_for, entry_width}
use Rattle.guard_table.specs.Meaning.GuardTable.{head_length, row_size, row_at, entry_at, guard_head, guard_entry, guard_row, table_in, guard_table}
use Rattle.guard_table.specs.Laws.GuardTable.{entries_begin, entry_next_to}
use Rattle.guard_table.specs.declared.kind.RowKind.{RowKind}
use Rattle.values.specs.Model.Values.{Game}
use Rattle.guard_rows.specs.Model.Entered.{output_by, numbered, guard_row_by, table_by}

-- an entry, after those before it
pub entry_stored : (before : List ℕ) (kind : RowKind) (lines place i : ℕ) {at : ℕ} → at ≡ entry_at kind lines place i → {a b : ℕ} → a ≡ b → {c d : ℕ} → c ≡ d
    → {after : List ℕ} → after ≡ sets before at (guard_entry kind a c)
    → after ≡ sets before (entry_at kind lines place 0 + i * entry_width kind) (guard_entry kind b d)
entry_stored before kind lines place i e f g h =
    h
    ∙ ap₂ (λ (n : ℕ) (l : List ℕ). sets before n l) (e ∙ entry_next_to kind lines place i) (ap₂ (guard_entry kind) f g)

-- a row: its header, then its entries
pub row-stored : (before : List ℕ) (kind : RowKind) (lines place : ℕ) (out next : ℕ → ℕ) {ins : ℕ} → ins ≡ 2 ^ lines → {head after : List ℕ}
    → head ≡ sets before (row_at kind lines place) (header (row_size kind lines) (kind_number kind))
    → after ≡ sets head (entry_at kind lines place 0) (cat ins (λ i. guard_entry kind (out i) (next i)))
    → after ≡ sets before (row_at kind lines place) (guard_row kind lines out next)
unfolding guard_row
row-stored before kind lines place out next {ins} e {head} {after} f g =
    let entries : ℕ → List ℕ = λ n. cat n (λ i. guard_entry kind (out i) (next i)) in
    let start = header (row_size kind lines) (kind_number kind) in
    g
    ∙ ap₂ (λ (l : List ℕ) (n : ℕ). sets l n (entries ins)) f (entries_begin kind lines place)
    ∙ sets_append before (row_at kind lines place) start (entries ins)
    ∙ ap (λ (n : ℕ). sets before (row_at kind lines place) (start ++ entries n)) e

-- head and rows written one after the other are the table
table_written : (before : List ℕ) (mode ins outs horizon count : ℕ) (out next : ℕ → ℕ → ℕ)
    → sets (sets before 0 (guard_head mode ins outs horizon count)) head_length
    (cat count (λ k. guard_row (kind_for count) ins (out k) (next k)))
    ≡ sets before 0 (guard_table mode ins outs horizon count out next)
unfolding table_in
table_written before mode ins outs horizon count out next =
    sets_append before 0 (guard_head mode ins outs horizon count) (cat count (λ k. guard_row (kind_for count) ins (out k) (next k)))

-- a table: its head, then its rows
pub table-stored : (before : List ℕ) (mode lines outs horizon count : ℕ) (g : Game) (rows order numbers : List ℕ) {head after : List ℕ}
    → head ≡ sets before 0 (guard_head mode lines outs horizon count)
    → after ≡ sets head head_length (cat count (λ j. guard_row_by (kind_for count) lines g (get_or rows j 0) numbers (get_or order j 0)))
    → after ≡ sets before 0 (table_by mode lines outs horizon count g rows order numbers)
table-stored before mode lines outs horizon count g rows order numbers {head} {after} e f =
    f
    ∙ ap (λ (l : List ℕ). sets l head_length (cat count (λ j. guard_row_by (kind_for count) lines g (get_or rows j 0) numbers (get_or order j 0)))) e
    ∙ table_written before mode lines outs horizon count (λ j. output_by (get_or rows j 0))
    (λ j. numbered g (get_or rows j 0) numbers (get_or order j 0))

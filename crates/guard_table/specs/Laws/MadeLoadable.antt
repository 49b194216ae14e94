-- The guard table of given entries is a table to load.
-- Assumes nothing.
use Rattle.std.specs.Prelude.{◌≡◌, refl, true, List, ℕ, ◌^◌, ◌≤◌, ◌<◌}
use borrow.Author.Tests.{lt-ltb, le-leb, eq-eqb}
use Rattle.records.specs.Laws.Tests.{and_both}
use Rattle.records.specs.Laws.Bounded.{all_of}
use Rattle.records.specs.Meaning.Limits.{lines_ok, horizon_ok}
use Rattle.guard_table.specs.Meaning.RowKind.{states_most}
use Rattle.guard_table.specs.Meaning.GuardTable.{length_in, kind_of, output_in, next_in, table_in}
use Rattle.guard_table.specs.Laws.GuardTable.{HeadReads, table_head_lem, table-kind, table_shows, row-header, entry_output, entry_next}
use Rattle.guard_table.specs.Meaning.Loadable.{size_ok, fields_ok, table_head_ok, entry_ok, entries_ok, row_ok, rows_ok, loadable}
use Rattle.guard_table.specs.declared.kind.RowKind.{RowKind}

module _
    (kind : RowKind) (mode inputs outputs horizon count : ℕ) (out next : ℕ → ℕ → ℕ)
    (lines : lines_ok mode inputs outputs ≡ true) (far : horizon_ok inputs horizon ≡ true)
    (some : 1 ≤ count) (most : count ≤ states_most kind)
    (outs : (k i : ℕ) → k < count → i < 2 ^ inputs → out k i < 2 ^ outputs)
    (nexts : (k i : ℕ) → k < count → i < 2 ^ inputs → next k i < count)
  where
    abbrev table : List ℕ
    table = table_in kind mode inputs outputs horizon count out next

    fields : fields_ok kind mode inputs outputs horizon count (length_in kind inputs count) ≡ true
    unfolding fields_ok size_ok
    fields =
        let size = length_in kind inputs count in
        simp (lines, far, le-leb 1 count some, le-leb count (states_most kind) most, eq-eqb size size refl)

    reads : HeadReads table kind mode inputs outputs horizon count
    reads = table_head_lem kind mode inputs outputs horizon count out next

    shown : kind_of table ≡ kind
    shown = table-kind kind mode inputs outputs horizon count out next some

    head : table_head_ok table ≡ true
    unfolding table_head_ok
    head =
        let h = reads in
        simp (
          table_shows kind mode inputs outputs horizon count out next some,
          shown,
          h.fills,
          h.header_is_lem,
          h.mode_is,
          h.inputs_is,
          h.outputs_is,
          h.horizon_is,
          h.count_is,
          fields,
        )

    entry : (k i : ℕ) → k < count → i < 2 ^ inputs → entry_ok (output_in table inputs k i) (next_in table inputs k i) outputs count ≡ true
    unfolding entry_ok
    entry k i h l =
        rw (
          entry_output kind mode inputs outputs horizon count out next k h i l,
          entry_next kind mode inputs outputs horizon count out next k h i l,
        )
        (and_both _ _ (lt-ltb _ _ (outs k i h l)) (lt-ltb _ _ (nexts k i h l)))

    row : (k : ℕ) → k < count → row_ok table inputs outputs count k ≡ true
    unfolding row_ok entries_ok
    row k h =
        rw shown
        (and_both _ _ (row-header kind mode inputs outputs horizon count out next k h) (all_of (2 ^ inputs) _ (λ i l. entry k i h l)))

    -- every guard table in bounds loads
    pub guard-loadable : loadable table ≡ true
    unfolding loadable rows_ok
    guard-loadable =
        let h = reads in
        rw (head, h.inputs_is, h.outputs_is, h.count_is) (all_of count (row_ok table inputs outputs count) row)

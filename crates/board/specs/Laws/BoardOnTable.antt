-- A board that holds the guard table of given entries goes by them.
-- Assumes nothing.
use Rattle.std.specs.Prelude.{◌≡◌, true, List, ℕ, ◌^◌, ◌≤◌, ◌<◌}
use Rattle.std.proofs.Common.{sym, ap, ap₂, subst, ◌∙◌}
use Rattle.records.specs.Meaning.Limits.{max_steps, lines_ok, horizon_ok}
use Rattle.guard_table.specs.Meaning.RowKind.{states_most}
use Rattle.guard_table.specs.Meaning.GuardTable.{output_in, next_in, table_in}
use Rattle.guard_table.specs.Laws.GuardTable.{HeadReads, table_head_lem, entry_output, entry_next}
use Rattle.guard_table.specs.Laws.MadeLoadable.{guard-loadable}
use Rattle.board.specs.Meaning.Board.{live}
use Rattle.board.specs.Meaning.BoardStep.{board_moved, step_on}
use Rattle.board.specs.Laws.LiveFacts.{live_facts}
use Rattle.board.specs.Laws.Calls.{ShowsHead, step_taken}
use Rattle.guard_table.specs.declared.kind.RowKind.{RowKind}
use Rattle.board.specs.declared.Board.{Board}

module _
    (kind : RowKind) (mode inputs outputs horizon count : ℕ) (out next : ℕ → ℕ → ℕ)
    (lines : lines_ok mode inputs outputs ≡ true) (far : horizon_ok inputs horizon ≡ true)
    (some : 1 ≤ count) (most : count ≤ states_most kind)
    (outs : (k i : ℕ) → k < count → i < 2 ^ inputs → out k i < 2 ^ outputs)
    (nexts : (k i : ℕ) → k < count → i < 2 ^ inputs → next k i < count)
  where
    abbrev table : List ℕ
    table = table_in kind mode inputs outputs horizon count out next

    reads : HeadReads table kind mode inputs outputs horizon count
    reads = table_head_lem kind mode inputs outputs horizon count out next

    -- a step of a live board that holds it goes by the given entries
    pub guard_step : (b : Board) → live b ≡ true → ShowsHead b table → b.steps < max_steps → (i : ℕ) → i < 2 ^ inputs
        → step_on b table i ≡ board_moved b i (out b.place i) (next b.place i)
    guard_step b e s h i l =
        let same : b.inputs ≡ inputs = s.inputs ∙ reads.inputs_is in
        let k : b.place < count = subst (λ (n : ℕ). b.place < n) (s.count ∙ reads.count_is) (live_facts b e).place in
        step_taken b e table (guard-loadable kind mode inputs outputs horizon count out next lines far some most outs nexts) s i h
        (subst (λ (n : ℕ). i < 2 ^ n) (sym same) l)
        ∙ ap₂ (board_moved b i)
        (ap (λ (n : ℕ). output_in table n b.place i) same ∙ entry_output kind mode inputs outputs horizon count out next b.place k i l)
        (ap (λ (n : ℕ). next_in table n b.place i) same ∙ entry_next kind mode inputs outputs horizon count out next b.place k i l)

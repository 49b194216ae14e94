-- `guard_rows::table::put_row`: the header and the entries of the inputs before i are stored, and `rest` has the digits from i on.
-- Assumes nothing.
use Rattle.std.proofs.Common.{◌/◌, ◌^◌, ◌≡◌}
use Rattle.records.specs.Meaning.Limits.{max_outs}
use Rattle.records.specs.Laws.Stores.{Blocks}
use Rattle.guard_table.specs.Meaning.GuardTable.{entry_at, guard_entry}
use Rattle.values.specs.Model.Tables.{steps_in}
use Rattle.guard_rows.specs.Model.Entered.{output_by, numbered}
use Rattle.guard_rows.proofs.table.put_row.Given as goal

abbrev pub invariant-loop-i : goal.invariant-loop-i
invariant-loop-i l =
    (l.rest ≡ l.row / max_outs ^ l.i)
    × Blocks l.initial.res (entry_at l.layout.kind l.layout.inputs l.place 0)
    (λ q. guard_entry l.layout.kind (output_by l.row q) (numbered (steps_in l.steps) l.row l.numbers l.k q)) l.i l.res

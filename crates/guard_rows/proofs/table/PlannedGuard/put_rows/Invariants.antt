-- `guard_rows::table::PlannedGuard::put_rows`: the records of the guard states before j are stored. Assumes nothing.
use lib.ListN.{get_or}
use Rattle.guard_table.specs.Meaning.GuardTable.{head_length}
use Rattle.values.specs.Model.Tables.{steps_in}
use Rattle.records.specs.Laws.Stores.{Blocks}
use Rattle.guard_rows.specs.Model.Entered.{guard_row_by}
use Rattle.guard_rows.proofs.table.PlannedGuard.put_rows.Given as goal

abbrev pub invariant-loop-j : goal.invariant-loop-j
invariant-loop-j l =
    Blocks l.initial.res head_length (λ q. guard_row_by l.layout.1.0 l.lines (steps_in l.self.steps) (get_or l.self.rows.now q 0) l.self.numbers.now (get_or l.self.order.now q 0)) l.j l.res

-- `supervisor_table::put_rows`: the records of the states before k are stored. Assumes nothing.
use Rattle.rounds.specs.Model.Tables.{over}
use Rattle.supervisor_table.specs.Model.MaskRows.{table_row}
use Rattle.records.specs.Laws.Stores.{Blocks}
use Rattle.supervisor_table.proofs.put_rows.Given as goal

abbrev pub invariant-loop-k : goal.invariant-loop-k
invariant-loop-k l = Blocks l.initial.res 9 (over l.sifted table_row) l.k l.res

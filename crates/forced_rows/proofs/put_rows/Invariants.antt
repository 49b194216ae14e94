-- `forced_rows::put_rows`: the rows of the states before k are stored. Assumes nothing.
use Rattle.records.specs.Laws.Stores.{Blocks}
use Rattle.rounds.specs.Model.Tables.{over}
use Rattle.forced_rows.specs.Model.ForcedRows.{forced_row}
use Rattle.forced_rows.proofs.put_rows.Given as goal

abbrev pub invariant-loop-k : goal.invariant-loop-k
invariant-loop-k l = Blocks l.initial.res 0 (over l.sifted forced_row) l.k l.res

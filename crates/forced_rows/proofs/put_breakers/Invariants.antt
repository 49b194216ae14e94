-- `forced_rows::put_breakers`: the monitors of the outputs before o are stored. Assumes nothing.
use Rattle.records.specs.Laws.Stores.{Elements}
use Rattle.rounds.specs.Model.Tables.{over}
use Rattle.forced_rows.specs.Model.ForcedRows.{breaker_at}
use Rattle.forced_rows.proofs.put_breakers.Given as goal

abbrev pub invariant-loop-o : goal.invariant-loop-o
invariant-loop-o l = Elements l.initial.res l.at (over l.sifted breaker_at l.k l.i) l.o l.res

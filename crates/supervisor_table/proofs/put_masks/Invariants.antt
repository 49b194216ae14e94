-- `supervisor_table::put_masks`: the masks of the inputs before i are stored. Assumes nothing.
use Rattle.rounds.specs.Model.Tables.{over}
use Rattle.rounds.specs.Model.TableRounds.{mask_of}
use Rattle.records.specs.Laws.Stores.{Elements}
use Rattle.supervisor_table.proofs.put_masks.Given as goal

abbrev pub invariant-loop-i : goal.invariant-loop-i
invariant-loop-i l = Elements l.initial.res l.at (over l.sifted mask_of l.k) l.i l.res

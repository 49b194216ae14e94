-- `rounds::Sifted::mask_of`: the bits of the outputs before o are set. Assumes nothing.
use Rattle.rounds.specs.Model.Tables.{over}
use Rattle.rounds.specs.Laws.Masks.{allows}
use Rattle.rounds.proofs.Masking.{Masking}
use Rattle.rounds.proofs.Sifted.mask_of.Given as goal

abbrev pub invariant-loop-o : goal.invariant-loop-o
invariant-loop-o l = Masking (over l.self allows l.k l.i) l.self.table.outs l.mask l.o

-- `sheet::reader::read_records`: a walk over records. The invariant: from here the walk gives what it gives from the head on.
-- Assumes nothing.
use Rattle.std.proofs.Common.{◌-◌}
use lib.ListN.{length}
use Rattle.sheet.proofs.Walk.{Walked}
use Rattle.sheet.proofs.reader.read_records.Given as goal

abbrev pub invariant-loop-found : goal.invariant-loop-found
invariant-loop-found l = Walked l.s l.initial.sheet l.initial.cursor.at l.sheet l.cursor.at

abbrev pub decreases-loop-found : goal.decreases-loop-found
decreases-loop-found l = length l.s - l.cursor.at

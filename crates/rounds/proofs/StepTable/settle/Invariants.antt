-- `rounds::StepTable::settle`: each round made so far dropped a state; the one that drops nothing is the last. Assumes nothing.
use Rattle.rounds.proofs.Settling.{Settling}
use Rattle.rounds.proofs.StepTable.settle.Given as goal

abbrev pub invariant-loop-lost : goal.invariant-loop-lost
invariant-loop-lost l = Settling l.self.cells.now l.self.n l.self.ins l.self.outs l.initial.dropped l.dropped l.kept l.made

abbrev pub decreases-loop-lost : goal.decreases-loop-lost
decreases-loop-lost l = l.kept

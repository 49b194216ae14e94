-- `rounds::StepTable::one_round`: the states before k have their entries after the round. Assumes nothing.
use Rattle.rounds.proofs.Turn.{Turn}
use Rattle.rounds.proofs.StepTable.one_round.Given as goal

abbrev pub invariant-loop-k : goal.invariant-loop-k
invariant-loop-k l = Turn l.self.cells.now l.self.n l.self.ins l.self.outs l.round l.initial.dropped l.dropped l.lost l.k

-- `rounds::StepTable::state_stays`: the inputs before i have a step to a state that was in; the cells before the one looked at have none at
-- input i.
-- Assumes nothing.
use Rattle.std.proofs.Common.{true, ◌*◌, ◌+◌, ◌-◌, ◌≡◌, ◌≤◌}
use Rattle.records.specs.Meaning.Bounded.{all}
use Rattle.rounds.specs.Model.TableRounds.{answered}
use Rattle.rounds.specs.Model.InPlace.{at_start}
use Rattle.rounds.proofs.Search.{Searching}
use Rattle.rounds.proofs.StepTable.state_stays.Given as goal

abbrev pub invariant-search : goal.invariant-search
invariant-search l = Searching l.self.cells.now (at_start l.round l.dropped) l.self.ins l.self.outs l.k l.i l.at

abbrev pub decreases-search : goal.decreases-search
decreases-search l = l.k * (l.self.ins * l.self.outs) + l.self.ins * l.self.outs - l.at

abbrev pub invariant-inputs : goal.invariant-inputs
invariant-inputs l = (l.i ≤ l.self.ins) × (all l.i (answered l.self.cells.now (at_start l.round l.dropped) l.self.ins l.self.outs l.k) ≡ true)

abbrev pub decreases-inputs : goal.decreases-inputs
decreases-inputs l = l.self.ins - l.i

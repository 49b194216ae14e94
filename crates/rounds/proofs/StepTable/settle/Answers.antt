-- `rounds::StepTable::settle`: each round made so far dropped a state; the one that drops nothing is the last. Assumes nothing.
use Rattle.std.proofs.Common.{arith, ◌++◌}
use lib.ListN.{drop}
use Rattle.rounds.proofs.Settling.{Began, Turned, begin, filled, low, go, stop}
use Rattle.rounds.proofs.StepTable.settle.Goals.{After-fill, After-one_round-lost}
use Rattle.rounds.proofs.StepTable.settle.Goals as goal

-- the loop begins with all states in
begun : (c : After-fill) → let a = c.args in
    Began a.self.now.n a.dropped.now (c.fill.new.self ++ drop a.self.now.n a.dropped.now)
begun c = filled c.requires.n_in_bounds.0 (c.fill.ensures.after (λ y e. e))

-- and has made a round more
turned : (c : After-one_round-lost) → let table = c.args.self.now in let at = c.loop-lost in let made = c.one_round-lost in
    Turned table.cells.now table.n table.ins table.outs c.args.dropped.now (c.fill.new.self ++ drop table.n c.args.dropped.now)
    at.dropped made.new.dropped at.kept at.made made.result
turned c =
    record {
      began = filled c.requires.n_in_bounds.0 (c.fill.ensures.after (λ y e. e));
      inv = c.loop-lost.invariant;
      turn = c.one_round-lost.ensures;
    }

pub loop-lost-init : goal.loop-lost-init
loop-lost-init c = begin _ _ _ _ (begun (goal.at.loop-lost-init c).After-fill)

pub one_round-lost-requires-clause-before_round : goal.one_round-lost-requires-clause-before_round
one_round-lost-requires-clause-before_round c =
    low (begun (goal.at.one_round-lost-requires-clause-before_round c).After-fill) c.loop-lost.invariant

pub loop-lost-preserved : goal.loop-lost-preserved
loop-lost-preserved c = go (turned (goal.at.loop-lost-preserved c).After-one_round-lost) (λ z. omega arith)

pub returns : goal.returns
returns c = stop (turned (goal.at.returns c).After-one_round-lost) (omega arith)

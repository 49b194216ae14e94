-- `values::order::rank_of`: the rank by the literals before j. Assumes nothing.
use Rattle.std.proofs.Common.{◌≡◌}
use Rattle.values.specs.Model.Rank.{rank_by}
use Rattle.values.proofs.order.rank_of.Given as goal

abbrev pub invariant-loop-j : goal.invariant-loop-j
invariant-loop-j l = l.rank ≡ rank_by l.literals l.j l.o

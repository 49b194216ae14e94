-- `values::order::ranks_of`: the ranks of the outputs before o. Assumes nothing.
use Rattle.std.proofs.Common.{◌≡◌}
use Rattle.records.specs.Model.Lists.{put}
use Rattle.values.specs.Model.Rank.{rank_by}
use Rattle.values.proofs.order.ranks_of.Given as goal

abbrev pub invariant-loop-o : goal.invariant-loop-o
invariant-loop-o l = l.ranks ≡ put l.initial.ranks l.o (rank_by l.literals l.count)

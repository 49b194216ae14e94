-- `values::values::prepare`: the arrivals of the states before k. Assumes nothing.
use Rattle.std.proofs.Common.{◌≡◌}
use Rattle.records.specs.Model.Lists.{put}
use Rattle.values.specs.Model.Arrivals.{arrival}
use Rattle.values.proofs.values.prepare.Given as goal

abbrev pub invariant-loop-k : goal.invariant-loop-k
invariant-loop-k l = l.arrivals ≡ put l.initial.arrivals l.k (arrival l.gains l.values l.factor)

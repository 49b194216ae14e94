-- `records::work::long_enough`: the slices before k are long enough. Assumes nothing.
use Rattle.std.proofs.Common.{ℕ, ◌<◌, ◌≤◌, get_or}
use Rattle.records.proofs.work.long_enough.Given as goal

abbrev pub invariant-loop-k : goal.invariant-loop-k
invariant-loop-k g l = (j : ℕ) → j < l.k → get_or l.asked j 0 ≤ get_or l.lent j 0

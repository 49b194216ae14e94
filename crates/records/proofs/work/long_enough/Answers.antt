-- `records::work::long_enough`: the slices before k are long enough. Assumes nothing.
use Rattle.std.proofs.Common.{arith, sym, ap, length}
use Rattle.records.specs.Laws.Work.{all_long, one_short}
use Rattle.records.proofs.work.long_enough.Goals as goal

pub returns-then-lent-k : goal.returns-then-lent-k
returns-then-lent-k g c =
    λ work asked. sym (one_short work _ c.loop-k.k (omega arith) (rw asked (omega (arith, c.if-lent-k.true))))

pub returns : goal.returns
returns g c =
    λ work asked. sym (all_long work _ (omega (arith, ap length asked)) (λ k l. rw asked (c.loop-k.invariant k (omega arith))))

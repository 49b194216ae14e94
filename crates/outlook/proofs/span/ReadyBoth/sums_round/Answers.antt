-- `outlook::span::ReadyBoth::sums_round`: the entries of the states before k in both rows. Assumes nothing.
use Rattle.std.proofs.Common.{ap, arith, sym}
use Rattle.records.specs.Laws.Lists.{put_none, put_next}
use Rattle.outlook.specs.Model.Spans.{sums_of}
use Rattle.outlook.specs.declared.sums.Sums.{Sums}
use Rattle.outlook.proofs.Summing.{ready_high, ready_low}
use Rattle.outlook.proofs.span.ReadyBoth.sums_round.Goals as goal

pub loop-k-init : goal.loop-k-init
loop-k-init c = (sym (put_none _ _), sym (put_none _ _))

pub loop-k-preserved : goal.loop-k-preserved
unfolding sums_of
loop-k-preserved c =
    let e = c.sums_of-sums.ensures in
    let r = c.loop-k.invariant in
    (put_next _ _ _ r.0 (ap (λ (s : Sums). s.best) e), put_next _ _ _ r.1 (ap (λ (s : Sums). s.least) e))

pub sums_of-sums-requires : goal.sums_of-sums-requires
sums_of-sums-requires c =
    let r = c.args.self.now in
    record { high = ready_high r (omega arith); low = ready_low r (omega arith) }

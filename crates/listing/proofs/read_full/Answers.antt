use Rattle.std.proofs.Common.{rules, length-take-le}
use Rattle.listing.proofs.Reading.{Consumes-behind}
use Rattle.listing.proofs.read_full.Goals as goal

pub loop-size-preserved : goal.loop-size-preserved
loop-size-preserved g c = record {
  inside = search rules;
  bytes =
      Consumes-behind _ _ _ _ _ _ _ _ (length-take-le _ _ c.loop-size.invariant.inside) c.in_ok-read.ensures.bound.0
      c.loop-size.invariant.bytes c.in_ok-read.ensures.bytes.0;
}

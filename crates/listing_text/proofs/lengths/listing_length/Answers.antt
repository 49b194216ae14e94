-- `listing_text::lengths::listing_length`: the first line, and the lines of the states. Assumes nothing.
use Rattle.std.proofs.Common.{arith}
use Rattle.listing_text.specs.Laws.Lengths.{closed_length}
use Rattle.listing_text.proofs.lengths.listing_length.Goals as goal

pub returns : goal.returns
returns c = omega (arith, closed_length c.args.table.now c.of-closed.ensures.bytes c.of-closed.ensures.inputs c.of-closed.ensures.count)

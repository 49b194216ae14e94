-- `listing_text::lengths::entry_length`: a sum. Assumes nothing.
use Rattle.std.proofs.Common.{arith}
use Rattle.listing_text.specs.Laws.Lengths.{length_entry}
use Rattle.listing_text.proofs.lengths.entry_length.Goals as goal

pub returns : goal.returns
returns c = let e = c.args.entry in omega (arith, length_entry e.output e.next)

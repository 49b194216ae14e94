-- By how much was read, and whether the end was seen.
use Rattle.std.proofs.Common.{arith, rules}
use Rattle.listing.proofs.Printing.{short_read, cut_read}
use Rattle.listing.proofs.print.Goals as goal

pub returns-then-not-ended : goal.returns-then-not-ended
returns-then-not-ended c = cut_read _ _ (omega arith) (omega arith) (search rules)

pub returns : goal.returns
returns c = short_read _ (omega arith) (omega arith) (search rules) c.print_guard.ensures

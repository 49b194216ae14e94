-- `listing_text::table::ClosedTable::rows_length`: the lengths of the lines of the states before k are added up. Assumes nothing.
use Rattle.std.proofs.Common.{◌*◌, ◌≡◌, ◌≤◌}
use lib.ListN.{length}
use Rattle.records.specs.Meaning.Lists.{cat}
use Rattle.listing_text.specs.Meaning.Listing.{row_of}
use Rattle.listing_text.proofs.table.ClosedTable.rows_length.Given as goal

abbrev pub invariant-loop-k : goal.invariant-loop-k
invariant-loop-k l = (l.total ≡ length (cat l.k (row_of l.self.bytes.now l.self.inputs))) × (l.total ≤ l.k * 133)

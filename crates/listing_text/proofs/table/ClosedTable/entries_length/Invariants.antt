-- `listing_text::table::ClosedTable::entries_length`: the lengths of the entries of the inputs before i are added up. Assumes nothing.
use Rattle.std.proofs.Common.{◌*◌, ◌≡◌, ◌≤◌}
use lib.ListN.{length}
use Rattle.records.specs.Meaning.Lists.{cat}
use Rattle.listing_text.specs.Meaning.Listing.{entry_of}
use Rattle.listing_text.proofs.table.ClosedTable.entries_length.Given as goal

abbrev pub invariant-loop-i : goal.invariant-loop-i
invariant-loop-i l = (l.total ≡ length (cat l.i (entry_of l.self.bytes.now l.self.inputs l.k))) × (l.total ≤ l.i * 8)

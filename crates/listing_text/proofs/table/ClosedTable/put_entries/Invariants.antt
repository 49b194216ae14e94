-- `listing_text::table::ClosedTable::put_entries`: the entries of the inputs before i are put. Assumes nothing.
use Rattle.records.specs.Meaning.Lists.{cat}
use Rattle.listing_text.specs.Meaning.Listing.{entry_of}
use Rattle.listing_text.specs.Model.Puts.{Puts}
use Rattle.listing_text.proofs.table.ClosedTable.put_entries.Given as goal

abbrev pub invariant-loop-i : goal.invariant-loop-i
invariant-loop-i l = Puts l.initial.writer (cat l.i (entry_of l.self.bytes.now l.self.inputs l.k)) l.writer

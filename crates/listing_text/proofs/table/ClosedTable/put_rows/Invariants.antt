-- `listing_text::table::ClosedTable::put_rows`: the lines of the states before k are put. Assumes nothing.
use Rattle.records.specs.Meaning.Lists.{cat}
use Rattle.listing_text.specs.Meaning.Listing.{row_of}
use Rattle.listing_text.specs.Model.Puts.{Puts}
use Rattle.listing_text.proofs.table.ClosedTable.put_rows.Given as goal

abbrev pub invariant-loop-k : goal.invariant-loop-k
invariant-loop-k l = Puts l.initial.writer (cat l.k (row_of l.self.bytes.now l.self.inputs)) l.writer

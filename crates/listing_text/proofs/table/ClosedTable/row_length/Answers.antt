-- `listing_text::table::ClosedTable::row_length`: a sum. Assumes nothing.
use Rattle.std.proofs.Common.{arith}
use Rattle.listing_text.specs.Laws.Lengths.{length-row_text}
use Rattle.listing_text.proofs.table.ClosedTable.row_length.Goals as goal

pub returns : goal.returns
returns c = let a = c.args in omega (arith, length-row_text a.self.now.bytes.now a.self.now.inputs a.k)

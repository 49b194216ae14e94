-- `listing_text::table::ClosedTable::put_rows`: the lines of the states before k are put. Assumes nothing.
use Rattle.std.proofs.Common.{arith}
use Rattle.listing_text.specs.Meaning.Listing.{row_of}
use Rattle.listing_text.specs.Laws.Written.{puts_none, puts_more, puts_all, block_fits}
use Rattle.listing_text.proofs.table.ClosedTable.put_rows.Goals as goal

pub loop-k-init : goal.loop-k-init
loop-k-init c = puts_none _ _

pub put_row-requires-clause-room : goal.put_row-requires-clause-room
put_row-requires-clause-room c =
    let t = c.args.self.now in
    block_fits (row_of t.bytes.now t.inputs) c.loop-k.k t.count c.loop-k-test.true c.loop-k.invariant c.requires.room

pub loop-k-preserved : goal.loop-k-preserved
loop-k-preserved c =
    let t = c.args.self.now in puts_more (row_of t.bytes.now t.inputs) c.loop-k.k c.loop-k.invariant c.put_row.ensures

pub returns : goal.returns
returns c =
    let t = c.args.self.now in
    puts_all (row_of t.bytes.now t.inputs) c.loop-k.k t.count (omega (arith, c.loop-k.auto.k-end)) c.loop-k.invariant

-- `listing_text::table::ClosedTable::put_entries`: the entries of the inputs before i are put. Assumes nothing.
use Rattle.std.proofs.Common.{arith, ◌<◌, ◌^◌, ◌≡◌}
use Rattle.guard_table.specs.Laws.GuardTable.{sized_row, entry_inside, next_few}
use Rattle.listing_text.specs.Meaning.Listing.{entry_text, entry_of}
use Rattle.listing_text.specs.Laws.Pieces.{entry_found}
use Rattle.listing_text.specs.Laws.Written.{puts_none, puts_more, puts_all, puts_as, block_fits}
use Rattle.listing_text.proofs.table.ClosedTable.put_entries.Goals.{After-entry_in, In-loop-i}
use Rattle.listing_text.proofs.table.ClosedTable.put_entries.Goals as goal

-- the input is one of those that there are
low : (c : In-loop-i) → c.loop-i.i < 2 ^ c.args.self.now.inputs
low c = omega (arith, c.pow2-i-end.ensures)

-- the entry that was read is the next one
found : (c : After-entry_in)
    → entry_text c.entry_in.result.output c.entry_in.result.next ≡ entry_of c.args.self.now.bytes.now c.args.self.now.inputs c.args.k c.loop-i.i
found c = entry_found _ _ _ _ c.entry_in.ensures.0 c.entry_in.ensures.1

pub loop-i-init : goal.loop-i-init
loop-i-init c = puts_none _ _

pub entry_in-requires : goal.entry_in-requires
entry_in-requires c =
    entry_inside (sized_row c.args.self.now.closed.sized c.requires.k_low) (low (goal.at.entry_in-requires c).In-loop-i)

pub put_entry-requires : goal.put_entry-requires
put_entry-requires c =
    let at = goal.at.put_entry-requires c in
    let in_range = low at.In-loop-i in
    let t = c.args.self.now in
    let room = block_fits (entry_of t.bytes.now t.inputs c.args.k) c.loop-i.i (2 ^ t.inputs) in_range c.loop-i.invariant c.requires.room in
    (rw (found at.After-entry_in) room, next_few t.closed _ _ c.requires.k_low in_range c.entry_in.ensures.1)

pub loop-i-preserved : goal.loop-i-preserved
loop-i-preserved c =
    let t = c.args.self.now in
    puts_more (entry_of t.bytes.now t.inputs c.args.k) c.loop-i.i c.loop-i.invariant
    (puts_as c.put_entry.ensures (found (goal.at.loop-i-preserved c).After-entry_in))

pub returns : goal.returns
returns c =
    let t = c.args.self.now in
    puts_all (entry_of t.bytes.now t.inputs c.args.k) c.loop-i.i (2 ^ t.inputs) (omega (arith, c.pow2-i-end.ensures, c.loop-i.auto.i-end))
    c.loop-i.invariant

-- `listing_text::table::ClosedTable::put_row`: four pieces, one after the other. Assumes nothing.
use Rattle.std.proofs.Common.{List, arith, ℕ, ◌++◌, ◌^◌, ◌∷◌}
use Rattle.records.specs.Meaning.Lists.{cat}
use Rattle.listing_text.specs.Meaning.Listing.{decimal, line_end, row_text, entry_of, row_of}
use Rattle.listing_text.specs.Laws.Written.{puts_then, fits_first, fits_second}
use Rattle.listing_text.proofs.table.ClosedTable.put_row.Goals as goal

-- the entries of the row
abbrev entries : List ℕ → ℕ → ℕ → List ℕ
entries t inputs k = cat (2 ^ inputs) (entry_of t inputs k)

pub put_number-requires : goal.put_number-requires
unfolding row_of row_text entry_of
put_number-requires c =
    let t = c.args.self.now in (
      omega (arith, t.closed.sized.count_most, c.requires.k_low),
      fits_first c.args.writer.now (decimal c.args.k) (58 ∷ (entries t.bytes.now t.inputs c.args.k ++ line_end)) c.requires.room,
    )

pub put_byte-requires : goal.put_byte-requires
unfolding row_of row_text entry_of
put_byte-requires c =
    let t = c.args.self.now in
    let rest = entries t.bytes.now t.inputs c.args.k ++ line_end in
    omega (arith, fits_second c.put_number.ensures (58 ∷ rest) c.requires.room)

pub put_entries-requires-clause-room : goal.put_entries-requires-clause-room
unfolding row_of row_text entry_of
put_entries-requires-clause-room c =
    let t = c.args.self.now in
    let rest = entries t.bytes.now t.inputs c.args.k ++ line_end in
    let room = fits_second c.put_number.ensures (58 ∷ rest) c.requires.room in
    fits_first c.put_byte.new.self (entries t.bytes.now t.inputs c.args.k) line_end (fits_second c.put_byte.ensures rest room)

pub put_byte-requires-2 : goal.put_byte-requires-2
unfolding row_of row_text entry_of
put_byte-requires-2 c =
    let t = c.args.self.now in
    let rest = entries t.bytes.now t.inputs c.args.k ++ line_end in
    let room1 = fits_second c.put_number.ensures (58 ∷ rest) c.requires.room in
    let room2 = fits_second c.put_byte.ensures rest room1 in
    fits_second c.put_entries.ensures line_end room2

pub returns : goal.returns
unfolding row_of row_text entry_of
returns c =
    puts_then c.put_number.ensures (puts_then c.put_byte.ensures (puts_then c.put_entries.ensures c.put_byte-2.ensures))

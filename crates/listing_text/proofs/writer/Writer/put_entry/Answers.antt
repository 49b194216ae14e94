-- `listing_text::writer::Writer::put_entry`: four pieces, one after the other. Assumes nothing.
use Rattle.std.proofs.Common.{arith, ◌∷◌}
use Rattle.listing_text.specs.Meaning.Listing.{decimal, entry_text}
use Rattle.listing_text.specs.Laws.Written.{puts_then, fits_first, fits_second}
use Rattle.listing_text.proofs.writer.Writer.put_entry.Goals as goal

pub put_byte-requires : goal.put_byte-requires
unfolding entry_text
put_byte-requires c = omega (arith, c.requires.0)

pub put_number-requires : goal.put_number-requires
unfolding entry_text
put_number-requires c =
    let e = c.args.entry in (
      omega arith,
      fits_first c.put_byte.new.self (decimal e.output) (62 ∷ decimal e.next) (fits_second c.put_byte.ensures _ c.requires.0),
    )

pub put_byte-requires-2 : goal.put_byte-requires-2
unfolding entry_text
put_byte-requires-2 c =
    omega (arith, fits_second c.put_number.ensures (62 ∷ decimal c.args.entry.next) (fits_second c.put_byte.ensures _ c.requires.0))

pub put_number-requires-2 : goal.put_number-requires-2
unfolding entry_text
put_number-requires-2 c =
    let room = fits_second c.put_number.ensures (62 ∷ decimal c.args.entry.next) (fits_second c.put_byte.ensures _ c.requires.0) in
    (omega arith, fits_second c.put_byte-2.ensures (decimal c.args.entry.next) room)

pub returns : goal.returns
unfolding entry_text
returns c =
    puts_then c.put_byte.ensures (puts_then c.put_number.ensures (puts_then c.put_byte-2.ensures c.put_number-2.ensures))

-- `listing_text::writer::Writer::put_labelled`: the word, then the number. Assumes nothing.
use Rattle.listing_text.specs.Meaning.Listing.{decimal, labelled}
use Rattle.listing_text.specs.Laws.Written.{puts_then, fits_first, fits_second}
use Rattle.listing_text.proofs.writer.Writer.put_labelled.Goals as goal

pub put_word-requires : goal.put_word-requires
unfolding labelled
put_word-requires c = fits_first c.args.self.now c.args.word.now (decimal c.args.n) c.requires.1

pub put_number-requires : goal.put_number-requires
unfolding labelled
put_number-requires c = (c.requires.0, fits_second c.put_word.ensures (decimal c.args.n) c.requires.1)

pub returns : goal.returns
unfolding labelled
returns c = puts_then c.put_word.ensures c.put_number.ensures

-- `listing_text::writer::Writer::put_word`: the word is copied over its part of the text. Assumes nothing.
use Rattle.std.proofs.Common.{refl}
use Rattle.listing_text.specs.Laws.Pieces.{word_put}
use Rattle.listing_text.proofs.writer.Writer.put_word.Goals as goal

pub returns : goal.returns
returns c = record { put = word_put _ _ _ c.requires c.copy_from_slice.ensures.after; same_reference = refl }

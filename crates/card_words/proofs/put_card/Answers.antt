-- `card_words::put_card`: the words of the entries before s are stored. Assumes nothing.
use Rattle.records.specs.Laws.Stores.{more_blocks}
use Rattle.card_words.specs.Laws.CardWords.{length-words}
use Rattle.card_words.proofs.put_card.Goals as goal

pub loop-s-preserved : goal.loop-s-preserved
loop-s-preserved c = more_blocks c.loop-s.invariant (λ q. length-words _) c.put_entry.ensures

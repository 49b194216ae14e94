-- `card_words::put_card`: the words of the entries before s are stored. Assumes nothing.
use lib.ListN.{get_or}
use Rattle.records.specs.Laws.Stores.{Blocks}
use Rattle.card.specs.Meaning.Card.{lost_entry}
use Rattle.card_words.specs.Meaning.CardWords.{entry_words}
use Rattle.card_words.proofs.put_card.Given as goal

abbrev pub invariant-loop-s : goal.invariant-loop-s
invariant-loop-s l = Blocks l.initial.words 1 (λ q. entry_words (get_or l.prospect-items q lost_entry)) l.s l.words

-- A card's words: the count, then for each entry the bits of its best and of its least average, all ones where it is lost.
-- Assumes nothing.
use Rattle.std.specs.Prelude.{List, [], ◌∷◌, ℕ, ◌+◌, ◌-◌, ◌*◌, ◌^◌, get_or}
use Rattle.std.specs.Float.{binary64}
use Rattle.std.specs.Float.Ieee.{to_bits}
use Rattle.records.specs.Meaning.Limits.{max_states}
use Rattle.records.specs.Meaning.Lists.{cat}
use Rattle.card.specs.Meaning.Card.{lost_entry}
use Rattle.card.specs.declared.Prospect.{Prospect}
use Rattle.card.specs.declared.Prospect.TheVariants.{Lost, Worth}
use Rattle.card.specs.declared.Card.{Card}

-- each word of a lost state: no number has these bits
abbrev pub lost_word : ℕ
lost_word = 2 ^ 64 - 1

-- the two words of a state
abbrev pub prospect_words : Prospect → List ℕ
prospect_words Lost = lost_word ∷ lost_word ∷ []
prospect_words (Worth a) = to_bits binary64 a.best ∷ to_bits binary64 a.least ∷ []

unfoldable pub entry_words : Prospect → List ℕ
entry_words p = prospect_words p

unfoldable pub card_words : Card → List ℕ
card_words card = card.count ∷ cat max_states (λ s. entry_words (get_or card.entries s lost_entry))

-- so many they are
abbrev pub card_length : ℕ
card_length = 1 + 2 * max_states

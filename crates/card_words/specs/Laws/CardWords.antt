-- How many words a card has, that they fill a list of that length, and that no average has the word of a lost state.
-- Assumes nothing.
use Rattle.std.specs.Prelude.{◌≡◌, refl, not, List, ℕ, suc, T, length, Float}
use Rattle.std.proofs.Common.{sym, ap, subst, ◌∙◌, append-nil, arith, drop_of_length-le}
use Rattle.std.proofs.lemmas.List.Edits.{sets}
use Rattle.std.specs.Float.{nan, binary64}
use Rattle.std.specs.Float.Ieee.{is_nan, of_bits, to_bits}
use Rattle.records.specs.Meaning.Limits.{max_states}
use Rattle.records.specs.Laws.Lists.{length-cat, sets_front}
use Rattle.averages.specs.Meaning.Averages.{average_of}
use Rattle.averages.specs.Laws.Averages.{average_number, bits_back}
use Rattle.card_words.specs.Meaning.CardWords.{lost_word, prospect_words, entry_words, card_words, card_length}
use Rattle.card.specs.declared.Prospect.{Prospect}
use Rattle.card.specs.declared.Prospect.TheVariants.{Lost, Worth}
use Rattle.card.specs.declared.Card.{Card}

two_words : (p : Prospect) → length (prospect_words p) ≡ 2
two_words Lost = refl
two_words (Worth a) = refl

pub length-words : (p : Prospect) → length (entry_words p) ≡ 2
unfolding entry_words
length-words p = two_words p

pub length_card : (card : Card) → length (card_words card) ≡ card_length
unfolding card_words
length_card card = ap suc (length-cat 2 max_states _ (λ s h. length-words _))

-- stored into as many words, they leave nothing of these
pub card_fills : (words : List ℕ) (card : Card) → length words ≡ card_length → sets words 0 (card_words card) ≡ card_words card
card_fills words card e =
    let as_long : length (card_words card) ≡ card_length = length_card card in
    sets_front words (card_words card) (omega arith)
    ∙ (rw (drop_of_length-le words {i = length (card_words card)} (omega arith)) (append-nil (card_words card)))

-- all ones are no number
all_ones : of_bits binary64 lost_word ≡ nan
unfolding of_bits
all_ones = refl

no_number : T (not (is_nan nan)) → ⊥
unfolding is_nan
no_number h = h

pub lost_apart : (sum words : ℕ) → to_bits binary64 (average_of sum words) ≡ lost_word → ⊥
lost_apart sum words e =
    no_number
    (subst (λ (x : Float). T (not (is_nan x))) (sym (bits_back sum words) ∙ ap (of_bits binary64) e ∙ all_ones) (average_number sum words))

-- The averages of a card that was made are numbers.
-- Assumes nothing.
use Rattle.std.specs.Prelude.{◌≡◌, List, ℕ, eqb}
use Rattle.std.proofs.Common.{sym, subst, arith}
use Rattle.std.proofs.Math.Decide.{dec_lt}
use Rattle.records.specs.Laws.Tests.{by_test}
use Rattle.averages.specs.Laws.Averages.{average_number}
use Rattle.card.specs.Model.Card.{averages_of, card_entry, card_entry_at, lost_card, card_of}
use Rattle.card.specs.Laws.Card.{entry_kept, entry_lost, lost_at, card_at, card_past}
use Rattle.card.specs.declared.Prospect.{Prospect}
use Rattle.card.specs.declared.Prospect.TheVariants.{Worth}
use Rattle.card_words.specs.Model.CardNumbers.{Number, AllNumbers}

-- equal prospects
same_number : {p q : Prospect} → p ≡ q → Number q → Number p
same_number e n = subst Number (sym e) n

worth_number : (best least words : ℕ) → Number (Worth (averages_of best least words))
unfolding averages_of
worth_number best least words = (average_number best words, average_number least words)

entry_number : (round best least words : ℕ) → Number (card_entry round best least words)
entry_number round best least words =
    by_test (eqb round 0) (λ k. same_number (entry_kept round best least words k) (worth_number best least words))
    (λ k. same_number (entry_lost round best least words k) tt)

pub lost_numbers : AllNumbers lost_card.entries
lost_numbers = record { each = λ s h. same_number (lost_at s) tt }

pub card_numbers : (dropped bests leasts : List ℕ) (words n : ℕ) → AllNumbers (card_of dropped bests leasts words n).entries
unfolding card_entry_at
card_numbers dropped bests leasts words n =
    record {
      each = λ s h. elim (dec_lt s n) [
        | yes l ↦ same_number (card_at dropped bests leasts words n s l h) (entry_number _ _ _ _)
        | no l ↦ same_number (card_past dropped bests leasts words n s (omega arith)) tt
      ];
    }

-- The card as the code fills it in, and what the code asks of the rounds and sums that it is given.
-- Assumes nothing.
use Rattle.std.specs.Prelude.{cond, List, ℕ, ◌^◌, ◌≤◌, ◌<◌, eqb, length, get_or, replicate}
use Rattle.records.specs.Meaning.Limits.{max_states}
use Rattle.records.specs.Model.Lists.{put}
use Rattle.averages.specs.Meaning.Averages.{average_of}
use Rattle.card.specs.Meaning.Card.{lost_entry}
use Rattle.card.specs.declared.Averages.{Averages}
use Rattle.card.specs.declared.Prospect.{Prospect}
use Rattle.card.specs.declared.Prospect.TheVariants.{Worth}
use Rattle.card.specs.declared.Card.{Card}

-- two sums over a number of words that can be averaged
pub record Summed (best least words : ℕ) : Type 0 where
  pub best_most : best ≤ 2 ^ 53
  pub least_most : least ≤ 2 ^ 53
  pub words_least : 0 < words
  pub words_most : words ≤ 2 ^ 53

-- n states are worked out: the round that dropped each, and its sums
pub record Worked (dropped bests leasts : List ℕ) (words n : ℕ) : Type 0 where
  pub few : n ≤ max_states
  pub rounds_held : n ≤ length dropped
  pub bests_held : n ≤ length bests
  pub leasts_held : n ≤ length leasts
  pub summed : (s : ℕ) → s < n → Summed (get_or bests s 0) (get_or leasts s 0) words

unfoldable pub averages_of : ℕ → ℕ → ℕ → Averages
averages_of best least words = record { best = average_of best words; least = average_of least words }

-- a state that no round dropped is kept
unfoldable pub card_entry : ℕ → ℕ → ℕ → ℕ → Prospect
card_entry round best least words = cond (eqb round 0) (Worth (averages_of best least words)) lost_entry

-- the entry of state s
unfoldable pub card_entry_at : List ℕ → List ℕ → List ℕ → ℕ → ℕ → Prospect
card_entry_at dropped bests leasts words s = card_entry (get_or dropped s 0) (get_or bests s 0) (get_or leasts s 0) words

-- every entry lost
unfoldable pub lost_entries : List Prospect
lost_entries = replicate max_states lost_entry

unfoldable pub lost_card : Card
lost_card = record { count = 0; entries = lost_entries }

-- the card of n states
unfoldable pub card_of : List ℕ → List ℕ → List ℕ → ℕ → ℕ → Card
card_of dropped bests leasts words n = record { count = n; entries = put lost_entries n (card_entry_at dropped bests leasts words) }

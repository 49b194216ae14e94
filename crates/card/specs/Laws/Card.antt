-- What stands on a card: the entries of its states, and lost past them.
-- Assumes nothing.
use Rattle.std.specs.Prelude.{◌≡◌, true, false, cond, List, ℕ, zero, suc, ◌≤◌, ◌<◌, eqb, length, get_or, replicate}
use Rattle.std.proofs.Math.Path.{refl}
use Rattle.std.proofs.Common.{ap, ◌∙◌, arith}
use Rattle.std.proofs.Math.Option.{none, some}
use Rattle.std.proofs.lemmas.List.{length-replicate}
use Rattle.records.specs.Meaning.Limits.{max_states}
use Rattle.records.specs.Model.Lists.{put}
use Rattle.records.specs.Laws.Tests.{by_test}
use Rattle.records.specs.Laws.Lists.{length-put, put_ext, get_d_put-front, get_d_put_rest}
use Rattle.card.specs.Meaning.Card.{averages_in, lost_entry}
use Rattle.card.specs.Model.Card.{averages_of, card_entry, card_entry_at, lost_entries, lost_card, card_of}
use Rattle.card.specs.declared.Prospect.{Prospect}
use Rattle.card.specs.declared.Prospect.TheVariants.{Worth}
use Rattle.card.specs.declared.Card.{Card}

-- ---- an entry

module _ (round best least words : ℕ) where
  pub entry_kept : eqb round 0 ≡ true → card_entry round best least words ≡ Worth (averages_of best least words)
  unfolding card_entry
  entry_kept k = simp k

  pub entry_lost : eqb round 0 ≡ false → card_entry round best least words ≡ lost_entry
  unfolding card_entry
  entry_lost k = simp k

  -- it has averages exactly if the state is kept
  pub entry_averages : averages_in (card_entry round best least words) ≡ cond (eqb round 0) (some (averages_of best least words)) none
  unfolding card_entry
  entry_averages = by_test (eqb round 0) (λ k. rw k refl) (λ k. rw k refl)

-- ---- every entry lost

all_lost : (n s : ℕ) → get_or (replicate n lost_entry) s lost_entry ≡ lost_entry
all_lost zero s = refl
all_lost (suc n) zero = refl
all_lost (suc n) (suc s) = all_lost n s

lost_places : length lost_entries ≡ max_states
unfolding lost_entries
lost_places = length-replicate max_states lost_entry

lost_entry_lem : (s : ℕ) → get_or lost_entries s lost_entry ≡ lost_entry
unfolding lost_entries
lost_entry_lem s = all_lost max_states s

pub lost_count : lost_card.count ≡ 0
unfolding lost_card
lost_count = refl

pub lost_length : length lost_card.entries ≡ max_states
unfolding lost_card
lost_length = lost_places

pub lost_at : (s : ℕ) → get_or lost_card.entries s lost_entry ≡ lost_entry
unfolding lost_card
lost_at s = lost_entry_lem s

-- ---- the card of n states

module _ (dropped bests leasts : List ℕ) (words n : ℕ) where
  pub card_count : (card_of dropped bests leasts words n).count ≡ n
  unfolding card_of
  card_count = refl

  pub card_length_lem : length (card_of dropped bests leasts words n).entries ≡ max_states
  unfolding card_of
  card_length_lem = length-put lost_entries n _ ∙ lost_places

  -- the entry of each state
  pub card_at : (s : ℕ) → s < n → s < max_states
      → get_or (card_of dropped bests leasts words n).entries s lost_entry ≡ card_entry_at dropped bests leasts words s
  unfolding card_of
  card_at s h l = get_d_put-front lost_entries n (card_entry_at dropped bests leasts words) s lost_entry h (omega (arith, lost_places))

  -- and lost past them
  pub card_past : (s : ℕ) → n ≤ s → get_or (card_of dropped bests leasts words n).entries s lost_entry ≡ lost_entry
  unfolding card_of
  card_past s h = get_d_put_rest lost_entries n (card_entry_at dropped bests leasts words) s lost_entry h ∙ lost_entry_lem s

-- cards of as many states with the same entries are the same
pub card_ext : (dropped bests leasts : List ℕ) (words n : ℕ) (dropped' bests' leasts' : List ℕ) (words' n' : ℕ) → n ≡ n'
    → ((s : ℕ) → s < n → card_entry_at dropped bests leasts words s ≡ card_entry_at dropped' bests' leasts' words' s)
    → card_of dropped bests leasts words n ≡ card_of dropped' bests' leasts' words' n'
unfolding card_of
card_ext dropped bests leasts words n dropped' bests' leasts' words' n' e same =
    ap {B = Card} (λ (l : List Prospect). record { count = n; entries = l }) (put_ext lost_entries n _ _ same)
    ∙ ap {B = Card} (λ (m : ℕ). record { count = m; entries = put lost_entries m (card_entry_at dropped' bests' leasts' words') }) e

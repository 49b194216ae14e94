-- What the forecast promises, for every sheet and work memory: refusals by document 01's numbers in its order, and what each entry of
-- the card says of the product state with its number.
-- Assumes nothing.
use Rattle.std.specs.Prelude.{◌≡◌, ◌↔◌, List, [], ◌∷◌, ℕ, ◌≤◌, ◌<◌, length, get_or, Result}
use Rattle.std.proofs.Math.Option.{none, some}
use Rattle.records.specs.Meaning.Limits.{max_states, max_letters}
use Rattle.records.specs.Meaning.Work.{Slice, pairs, eights, long_enough, asked_bytes}
use Rattle.sheet.specs.Meaning.Decoded.{Decoded}
use Rattle.sheet.specs.Meaning.Grounds.{verdict_number}
use Rattle.sheet.specs.declared.layout.Refusal.{Refusal}
use Rattle.product.specs.Meaning.Step.{first_tuple}
use Rattle.product.specs.Meaning.States.{ProductStates}
use Rattle.solve.specs.Meaning.Allowed.{Kept, Lost, Accepted}
use Rattle.solve.specs.Promises.Opening.{OpensSheet}
use Rattle.solve.specs.Promises.OpeningWork.{opening_work, work_most}
use Rattle.plan.specs.Model.Playing.{best_at}
use Rattle.card.specs.Meaning.Card.{averages_in, lost_entry}
use Rattle.card.specs.declared.Averages.{Averages}
use Rattle.card.specs.declared.Card.{Card}
use Rattle.card.specs.declared.Prospect.{Prospect}
use Rattle.forecast.specs.Meaning.Forecast.{BestSums, LeastSums, WorthOf}
use Rattle.forecast.specs.Model.Forecast.{least_at, forecast_card}
use Rattle.forecast.specs.Model.Forecasting.{card_in, AnswersForecast}

-- ---- work memory

-- for n product states, beside the opening's: gains, bonuses, bests, leasts, highs, lows
abbrev pub forecast_work_for : ℕ → List Slice
forecast_work_for n = opening_work n (pairs n ∷ pairs max_letters ∷ eights n ∷ eights n ∷ eights n ∷ eights n ∷ [])

-- for as many as there may be
abbrev pub forecast_work : List Slice
forecast_work = forecast_work_for max_states

-- ---- what a card says

-- of the product state with number k
abbrev pub says_of : Card → ℕ → Prospect
says_of card k = get_or card.entries k lost_entry

-- of a card for at most `limit` product states
pub record ForetellsWithin (limit : ℕ) (d : Decoded) (card : Card) : Type 0 where
  -- the product states, as first met
  pub tuples : List (List ℕ)
  pub numbered : ProductStates d tuples
  pub count_is : card.count ≡ length tuples
  pub few : card.count ≤ limit
  -- a state is lost exactly if some number of inputs cannot be survived from it
  pub lost : (k : ℕ) → k < card.count → (averages_in (says_of card k) ≡ none) ↔ Lost d (get_or tuples k (first_tuple d))
  -- else it has averages, and they are its best and its least
  pub worth : (k : ℕ) → k < card.count → let t : List ℕ = get_or tuples k (first_tuple d) in Kept d t
      → (a : Averages) × (averages_in (says_of card k) ≡ some a)
      × WorthOf d d.horizon t (best_at d d.horizon t) (least_at d d.horizon t) a
  -- entries past the count are lost
  pub past : (k : ℕ) → card.count ≤ k → k < limit → averages_in (says_of card k) ≡ none

-- for as many as there may be
abbrev pub Foretells : Decoded → Card → Type 0
Foretells = ForetellsWithin max_states

-- a refusal: no state, every entry lost
pub record Unforetold (card : Card) : Type 0 where
  pub count_none : card.count ≡ 0
  pub every_lost : (k : ℕ) → k < max_states → averages_in (says_of card k) ≡ none

-- ---- the promise: `lent` are the lengths of the work memory

pub record MakesForecast (s lent : List ℕ) (r : Result Card Refusal) : Type 0 where
  pub answers : AnswersForecast (long_enough forecast_work lent) s r
  pub opens : OpensSheet (long_enough forecast_work lent) s (verdict_number r)
  -- a card has 512 entries
  pub entries : length (card_in r).entries ≡ max_states
  pub foretold : verdict_number r ≡ 0 → (d : Decoded) → Accepted s d → Foretells d (card_in r)
  -- which no other card with 512 entries does
  pub only : (d : Decoded) → Accepted s d → (card : Card) → length card.entries ≡ max_states → Foretells d card
      → card ≡ forecast_card d
  pub refused : (verdict_number r ≡ 0 → ⊥) → Unforetold (card_in r)
  -- the sums behind the averages, by document 01's recursion
  pub best_sums : (d : Decoded) → Accepted s d → BestSums d (best_at d)
  pub least_sums : (d : Decoded) → Accepted s d → LeastSums d (least_at d)
  -- the bytes of work memory that the constants ask for
  pub work_bytes : asked_bytes forecast_work ≤ work_most

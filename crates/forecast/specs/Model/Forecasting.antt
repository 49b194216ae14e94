-- The answer that is due, by the model.
-- Assumes nothing.
use Rattle.std.specs.Prelude.{◌≡◌, Bool, cond, List, ℕ, eqb, Result, Ok, Err}
use Rattle.sheet.specs.Meaning.Grounds.{verdict_number}
use Rattle.sheet.specs.declared.layout.Refusal.{Refusal}
use Rattle.solve.specs.Model.Making.{sheet_of}
use Rattle.solve.specs.Model.Opening.{opening_number}
use Rattle.card.specs.Model.Card.{lost_card}
use Rattle.card.specs.declared.Card.{Card}
use Rattle.forecast.specs.Model.Forecast.{forecast_card}

-- the card of an answer; on a refusal no state and every entry lost
abbrev pub card_in : Result Card Refusal → Card
card_in (Ok card) = card
card_in (Err cause) = lost_card

-- the opening's number, and the sheet's card
pub record AnswersForecast (work : Bool) (s : List ℕ) (r : Result Card Refusal) : Type 0 where
  pub number : verdict_number r ≡ opening_number work s
  pub card_is : card_in r ≡ cond (eqb (verdict_number r) 0) (forecast_card (sheet_of s)) lost_card

-- A forecast card that was made has words: its averages are numbers.
-- Assumes nothing.
use mathlib.Core.Path.{◌≡◌, sym, subst}
use mathlib.Core.Bool.{Bool, true, false, cond}
use mathlib.Core.List.{List}
use Prim.Native.Nat.{ℕ}
use lib.Dec.{eqb}
use Rattle.std.specs.Prelude.{Result, Ok, Err, refl}
use Rattle.std.specs.Result.{result_unwrap_or}
use Rattle.sheet.specs.Meaning.Grounds.{verdict_number}
use Rattle.sheet.specs.declared.layout.Refusal.{Refusal}
use Rattle.solve.specs.Model.Making.{sheet_of}
use Rattle.card.specs.Model.Card.{lost_card}
use Rattle.card.specs.declared.Card.{Card}
use Rattle.card_words.specs.Model.CardNumbers.{AllNumbers}
use Rattle.card_words.specs.Laws.CardNumbers.{lost_numbers, card_numbers}
use Rattle.forecast.specs.Model.Forecast.{forecast_card}
use Rattle.forecast.specs.Model.Forecasting.{card_in}
use Rattle.forecast.specs.Promises.Forecast.{MakesForecast}

-- the card that is written: the one that was made, else the lost one
pub card_given : (r : Result Card Refusal) {lost : Card} → lost ≡ lost_card → result_unwrap_or r lost ≡ card_in r
card_given (Ok card) e = refl
card_given (Err cause) e = e

pub made_numbers : {s lent : List ℕ} {r : Result Card Refusal} → MakesForecast s lent r → AllNumbers (card_in r).entries
unfolding forecast_card
made_numbers {s} {lent} {r} m =
    subst (λ (c : Card). AllNumbers c.entries) (sym m.answers.card_is) (either (eqb (verdict_number r) 0))
  where
    either : (b : Bool) → AllNumbers (cond b (forecast_card (sheet_of s)) lost_card).entries
    either true = card_numbers _ _ _ _ _
    either false = lost_numbers

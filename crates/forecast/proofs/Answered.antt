-- The answers of the maker: the opening's refusals, and the card of a sheet that was opened.
-- Assumes nothing.
use mathlib.Core.Path.{◌≡◌, ap, ◌∙◌}
use mathlib.Core.Bool.{Bool}
use mathlib.Core.List.{List}
use Prim.Native.Nat.{ℕ}
use Rattle.std.specs.Prelude.{Ok, Err}
use Rattle.sheet.specs.Model.Where.{decoded}
use Rattle.sheet.specs.declared.layout.Refusal.{Refusal}
use Rattle.solve.specs.Laws.OrderedNumber.{refused-off}
use Rattle.solve.specs.Model.Making.{sheet_of}
use Rattle.solve.specs.Model.Opening.{OpenAnswer}
use Rattle.solve.specs.declared.solving.Solved.{Solved}
use Rattle.card.specs.declared.Card.{Card}
use Rattle.forecast.specs.Model.Forecast.{forecast_card}
use Rattle.forecast.specs.Model.Forecasting.{AnswersForecast}

module _ {ok : Bool} {s : List ℕ} where
  -- a refusal
  pub answers_refused : {g : Refusal} → OpenAnswer ok s (Err g) → AnswersForecast ok s (Err g)
  answers_refused {g} opening = record { number = opening.number; card_is = rw (refused-off g) }

  -- a card
  pub answers_made : {opened : Solved} → OpenAnswer ok s (Ok opened) → {card : Card} → decoded s opened.sheet ≡ sheet_of s
      → card ≡ forecast_card (decoded s opened.sheet) → AnswersForecast ok s (Ok card)
  answers_made opening same made = record { number = opening.number; card_is = made ∙ ap forecast_card same }

-- The maker's whole promise, from its answer by the model.
-- Assumes nothing.
use mathlib.Core.Path.{◌≡◌, sym, ap, ◌∙◌, subst}
use mathlib.Core.Bool.{Bool, true, false, cond}
use mathlib.Core.List.{List}
use Prim.Native.Nat.{ℕ}
use native.Mathlib.Omega.{arith}
use Rattle.std.specs.Prelude.{Result}
use lib.Dec.{eqb}
use lib.ListN.{length}
use borrow.Author.Tests.{eq-eqb, ne_eqb}
use Rattle.records.specs.Meaning.Limits.{max_states}
use Rattle.records.specs.Meaning.Numbers.{Bytes}
use Rattle.records.specs.Meaning.Work.{long_enough, asked_bytes}
use Rattle.game.specs.Laws.Extreme.{smallest}
use Rattle.sheet.specs.Meaning.Decoded.{Decoded}
use Rattle.sheet.specs.Meaning.Grounds.{verdict_number}
use Rattle.sheet.specs.declared.layout.Refusal.{Refusal}
use Rattle.solve.specs.Meaning.Allowed.{Accepted}
use Rattle.solve.specs.Model.Making.{sheet_of}
use Rattle.solve.specs.Laws.Judging.{accepted_layout}
use Rattle.solve.specs.Laws.Opening.{opens_sheet}
use Rattle.solve.specs.Laws.RefusalOrder.{only_read}
use Rattle.card.specs.Meaning.Card.{averages_in}
use Rattle.card.specs.Model.Card.{lost_card}
use Rattle.card.specs.Laws.Card.{card_length_lem, lost_at, lost_length, lost_count}
use Rattle.card.specs.declared.Card.{Card}
use Rattle.forecast.specs.Model.Forecast.{forecast_card}
use Rattle.forecast.specs.Model.Forecasting.{card_in, AnswersForecast}
use Rattle.forecast.specs.Laws.Sums.{sums_by, best_sums_by}
use Rattle.forecast.specs.Promises.Forecast.{forecast_work, Foretells, Unforetold, MakesForecast}
use Rattle.forecast.specs.Laws.Foretells.{foretells, only_card}

-- the card of a refusal
lost_card_lem : Unforetold lost_card
lost_card_lem =
    record { count_none = lost_count; every_lost = λ k h. ap averages_in (lost_at k) }

pub forecast_promise : {s : List ℕ} {r : Result Card Refusal} (lent : List ℕ) → Bytes s → AnswersForecast (long_enough forecast_work lent) s r
    → MakesForecast s lent r
unfolding asked_bytes forecast_card
forecast_promise {s} {r} lent bytes answers =
    record {
      answers = answers;
      opens = opens_sheet r bytes answers.number;
      entries = size (eqb (verdict_number r) 0) answers.card_is;
      foretold = λ e d a.
          subst (Foretells d) (sym (made e ∙ ap forecast_card (sheet d a))) (foretells d a.sheet.in_bounds (accepted_layout a));
      only = λ d a card size x.
          only_card d (accepted_layout a) x (foretells d a.sheet.in_bounds (accepted_layout a)) size (card_size d);
      refused = λ bad. subst Unforetold (sym (answers.card_is ∙ rw (ne_eqb _ 0 bad))) lost_card_lem;
      best_sums = λ d a. best_sums_by d (accepted_layout a);
      least_sums = λ d a. sums_by d (accepted_layout a) smallest;
      work_bytes = omega arith;
    }
  where
    size : (b : Bool) → card_in r ≡ cond b (forecast_card (sheet_of s)) lost_card → length (card_in r).entries ≡ max_states
    size true e = ap (λ (c : Card). length c.entries) e ∙ card_length_lem _ _ _ _ _
    size false e = ap (λ (c : Card). length c.entries) e ∙ lost_length

    card_size : (d : Decoded) → length (forecast_card d).entries ≡ max_states
    card_size d = card_length_lem _ _ _ _ _

    made : verdict_number r ≡ 0 → card_in r ≡ forecast_card (sheet_of s)
    made e = answers.card_is ∙ rw (eq-eqb _ 0 e)

    sheet : (d : Decoded) → Accepted s d → sheet_of s ≡ d
    sheet d a = only_read s d a.sheet.in_bounds a.sheet.bytes

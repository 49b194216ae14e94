-- `forecast::make::Forecast::make`: the whole promise from the answer by the model. Assumes nothing.
use Rattle.std.proofs.Common.{Bool, arith, subst, sym, ◌∙◌, ◌≡◌}
use Rattle.records.specs.Meaning.Work.{long_enough}
use Rattle.forecast.specs.Model.Forecasting.{AnswersForecast}
use Rattle.forecast.specs.Promises.Forecast.{forecast_work}
use Rattle.forecast.proofs.Promise.{forecast_promise}
use Rattle.forecast.proofs.Lent.{lengths, work_room}
use Rattle.forecast.proofs.make.Forecast.make.Goals.{After-long_enough-ok}
use Rattle.forecast.proofs.make.Forecast.make.Goals as goal

-- the test is the definition's
tested : (c : After-long_enough-ok) → let a = c.args in
    c.long_enough-ok.result ≡ long_enough forecast_work
    (lengths a.tuples.now a.cells.now a.dropped.now a.gains.now a.bonuses.now a.bests.now a.leasts.now a.highs.now a.lows.now)
unfolding Rattle.records.specs.Laws.Work.exactly
tested c = c.long_enough-ok.ensures forecast_work search

pub make_with-made-requires : goal.make_with-made-requires
make_with-made-requires c =
    let a = c.args in
    λ e. work_room a.tuples.now a.cells.now a.dropped.now a.gains.now a.bonuses.now a.bests.now a.leasts.now a.highs.now a.lows.now
    (sym (tested (goal.at.make_with-made-requires c).After-long_enough-ok) ∙ e)

pub returns-clause-made : goal.returns-clause-made
returns-clause-made c =
    let a = c.args in
    forecast_promise
    (lengths a.tuples.now a.cells.now a.dropped.now a.gains.now a.bonuses.now a.bests.now a.leasts.now a.highs.now a.lows.now)
    (λ k. omega (arith, c.type_inv.sheet k))
    (subst (λ (b : Bool). AnswersForecast b a.sheet.now c.make_with-made.result)
    (tested (goal.at.returns-clause-made c).After-long_enough-ok) c.make_with-made.ensures)

-- `forecast::making::foretell`: each step's promise is what the next one asks for, and the last fills in the sheet's card. Assumes nothing.
use Rattle.std.proofs.Common.{arith, ◌∙◌, ◌≤◌}
use lib.ListN.{length}
use Rattle.records.specs.Meaning.Limits.{max_states}
use Rattle.sheet.specs.Laws.LayoutFacts.{inputs_low, outputs_low}
use Rattle.plan.specs.Laws.Planned.{tuples_in_range, counts_low, plan_words, plan_sized, horizon_in_bounds}
use Rattle.forecast.proofs.Foretold.{card_worked, card_is}
use Rattle.forecast.proofs.making.foretell.Goals.{Start}
use Rattle.forecast.proofs.making.foretell.Goals as goal

wide-dropped : (c : Start) → max_states ≤ length c.args.dropped.now
wide-dropped c = omega (arith, c.requires.forecast_room.dropped_long)

pub pow2-requires : goal.pow2-requires
pow2-requires c = omega (arith, inputs_low c.args.sheet.now.fits)

pub pow2-requires-2 : goal.pow2-requires-2
pow2-requires-2 c = omega (arith, outputs_low c.args.sheet.now.fits)

pub fill_gains-requires-clause-by_index : goal.fill_gains-requires-clause-by_index
fill_gains-requires-clause-by_index c = tuples_in_range c.args.sheet.now.fits.ok c.requires.playable

pub fill_bonuses-requires-clause-fits : goal.fill_bonuses-requires-clause-fits
fill_bonuses-requires-clause-fits c = (c.args.sheet.now.bytes.now, c.args.sheet.now.fits)

pub fill_bonuses-requires-clause-room : goal.fill_bonuses-requires-clause-room
fill_bonuses-requires-clause-room c =
    let counts = counts_low c.args.sheet.now.fits c.requires.playable _ _ c.pow2.ensures c.pow2-2.ensures in
    (counts.0, omega (arith, counts.4, c.requires.forecast_room.bonuses_long))

pub foresee-words-requires-clause-sized_game : goal.foresee-words-requires-clause-sized_game
foresee-words-requires-clause-sized_game c =
    let a = c.args in
    let long = c.requires.forecast_room in
    plan_sized a.sheet.now.fits c.requires.playable _ _ c.pow2.ensures c.pow2-2.ensures
    a.work.gains.now a.work.bonuses.now c.fill_gains.ensures (c.fill_bonuses.ensures a.sheet.now.bytes.now)
    long.gains_long long.bonuses_long long.cells_long (wide-dropped (goal.at.foresee-words-requires-clause-sized_game c).Start)

pub foresee-words-requires-clause-horizon_in_bounds : goal.foresee-words-requires-clause-horizon_in_bounds
foresee-words-requires-clause-horizon_in_bounds c =
    let fits = c.args.sheet.now.fits in
    plan_words fits c.requires.playable _ _ c.pow2.ensures c.pow2-2.ensures _ (horizon_in_bounds fits)

pub of-requires : goal.of-requires
of-requires c =
    let a = c.args in
    let long = c.requires.forecast_room in
    let sums = c.foresee-words.ensures in
    card_worked a.sheet.now.fits c.requires.playable _ _ c.pow2.ensures c.pow2-2.ensures
    a.work.gains.now a.work.bonuses.now c.fill_gains.ensures (c.fill_bonuses.ensures a.sheet.now.bytes.now)
    long.gains_long long.bonuses_long long.cells_long (wide-dropped (goal.at.of-requires c).Start)
    a.work.bests.now a.work.leasts.now sums.best sums.least sums.words long.bests_long long.leasts_long

pub returns : goal.returns
returns c =
    let a = c.args in
    let long = c.requires.forecast_room in
    let sums = c.foresee-words.ensures in
    c.of.ensures
    ∙ card_is a.sheet.now.fits c.requires.playable _ _ c.pow2.ensures c.pow2-2.ensures
    a.work.gains.now a.work.bonuses.now c.fill_gains.ensures (c.fill_bonuses.ensures a.sheet.now.bytes.now)
    long.gains_long long.bonuses_long long.cells_long (wide-dropped (goal.at.returns c).Start)
    a.work.bests.now a.work.leasts.now sums.best sums.least sums.words long.bests_long long.leasts_long

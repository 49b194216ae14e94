-- `plan::horizon::plan`: each step's promise is what the next one asks for, and the last leaves the sheet's guard. Assumes nothing.
use Rattle.std.proofs.Common.{arith, ◌≤◌}
use lib.ListN.{length}
use Rattle.records.specs.Meaning.Limits.{max_states}
use Rattle.sheet.specs.Laws.LayoutFacts.{outputs_low}
use Rattle.sheet.specs.Model.Meant.{meant}
use Rattle.values.specs.Model.Tables.{steps_in}
use Rattle.plan.specs.Model.Planned.{Planned}
use Rattle.plan.specs.Laws.Planned.{tuples_in_range, counts_low, plan_words, plan_sized, plan_choosing, plan_made}
use Rattle.plan.proofs.horizon.plan.Goals.{Start, After-guard_states-count}
use Rattle.plan.proofs.horizon.plan.Goals as goal

wide-dropped : (c : Start) → max_states ≤ length c.args.dropped.now
wide-dropped c = omega (arith, c.requires.room.dropped_long)

pub fill_gains-requires-clause-by_index : goal.fill_gains-requires-clause-by_index
fill_gains-requires-clause-by_index c = tuples_in_range c.args.sheet.now.fits.ok c.requires.playable

pub fill_bonuses-requires-clause-fits : goal.fill_bonuses-requires-clause-fits
fill_bonuses-requires-clause-fits c = (c.args.sheet.now.bytes.now, c.args.sheet.now.fits)

pub fill_bonuses-requires-clause-room : goal.fill_bonuses-requires-clause-room
fill_bonuses-requires-clause-room c =
    let counts = counts_low c.args.sheet.now.fits c.requires.playable _ _ c.requires.letters.0 c.requires.letters.1 in
    (counts.0, omega (arith, counts.4, c.requires.room.bonuses_long))

pub value_rows-factor-requires-clause-sized_game : goal.value_rows-factor-requires-clause-sized_game
value_rows-factor-requires-clause-sized_game c =
    let a = c.args in
    let long = c.requires.room in
    plan_sized a.sheet.now.fits c.requires.playable _ _ c.requires.letters.0 c.requires.letters.1
    a.work.gains.now a.work.bonuses.now c.fill_gains.ensures (c.fill_bonuses.ensures a.sheet.now.bytes.now)
    long.gains_long long.bonuses_long long.cells_long (wide-dropped (goal.at.value_rows-factor-requires-clause-sized_game c).Start)

pub value_rows-factor-requires-clause-horizon_in_bounds : goal.value_rows-factor-requires-clause-horizon_in_bounds
value_rows-factor-requires-clause-horizon_in_bounds c =
    let fits = c.args.sheet.now.fits in
    plan_words fits c.requires.playable _ _ c.requires.letters.0 c.requires.letters.1 _ c.requires.horizon

pub ranks_of-ranks-requires : goal.ranks_of-ranks-requires
ranks_of-ranks-requires c = outputs_low c.args.sheet.now.fits

pub guard_states-count-requires-clause-choosing : goal.guard_states-count-requires-clause-choosing
guard_states-count-requires-clause-choosing c =
    let a = c.args in
    let long = c.requires.room in
    let rows = c.value_rows-factor.ensures in
    plan_choosing a.sheet.now.fits c.requires.playable _ _ c.requires.letters.0 c.requires.letters.1
    a.work.gains.now a.work.bonuses.now c.fill_gains.ensures (c.fill_bonuses.ensures a.sheet.now.bytes.now)
    long.gains_long long.bonuses_long long.cells_long (wide-dropped (goal.at.guard_states-count-requires-clause-choosing c).Start) _
    c.requires.horizon
    a.work.values.now a.work.arrivals.now rows.row rows.words rows.arrivals long.values_long long.arrivals_long c.ranks_of-ranks.ensures

-- the guard that is planned
made : (c : After-guard_states-count) → let a = c.args in
    Planned (meant a.sheet.now) a.horizon (steps_in a.steps) c.guard_states-count.new.rows c.guard_states-count.new.order
    c.guard_states-count.new.numbers c.guard_states-count.result
made c =
    let a = c.args in
    let long = c.requires.room in
    let rows = c.value_rows-factor.ensures in
    let most = c.requires.playable.solution.numbering.most in
    plan_made a.sheet.now.fits c.requires.playable _ _ c.requires.letters.0 c.requires.letters.1
    a.work.gains.now a.work.bonuses.now c.fill_gains.ensures (c.fill_bonuses.ensures a.sheet.now.bytes.now)
    long.gains_long long.bonuses_long long.cells_long (omega (arith, long.dropped_long)) _ c.requires.horizon
    a.work.values.now a.work.arrivals.now rows.row rows.words rows.arrivals long.values_long long.arrivals_long c.ranks_of-ranks.ensures
    (omega (arith, most, long.values_long, c.guard_states-count.auto.rows, c.value_rows-factor.auto.values))
    (omega (arith, most, long.order_long, c.guard_states-count.auto.order))
    (omega (arith, most, long.numbers_long, c.guard_states-count.auto.numbers)) c.guard_states-count.ensures

pub invariant_of-result : goal.invariant_of-result
invariant_of-result c = record { tabled = (made (goal.at.invariant_of-result c).After-guard_states-count).tabled }

pub returns-clause-planned : goal.returns-clause-planned
returns-clause-planned c = made (goal.at.returns-clause-planned c).After-guard_states-count

-- `values::values::TableGame::value_rows`: after so many turns the row for so many steps, and the number of words of so many inputs.
-- Assumes nothing.
use Rattle.std.proofs.Common.{◌++◌, ◌≡◌}
use lib.ListN.{drop}
use Rattle.records.specs.Model.Lists.{put}
use Rattle.records.specs.Laws.Lists.{length-put}
use Rattle.values.specs.Model.Tables.{game_with}
use Rattle.values.specs.Laws.Cleared.{front_filled}
use Rattle.values.proofs.Iterating.{Fits, begin, preparable, new_valued, more, end}
use Rattle.values.proofs.values.TableGame.value_rows.Goals.{After-fill}
use Rattle.values.proofs.values.TableGame.value_rows.Goals as goal

cleared : (c : After-fill) → let a = c.args in
    c.fill.new.self ++ drop a.n a.values.now ≡ put a.values.now a.n (λ k. 0)
cleared c = front_filled _ c.requires.rows_room.0 (c.fill.ensures.after (λ y e. e))

fits : (c : After-fill) → let a = c.args in
    Fits (game_with a.self.now a.gains.now) a.n a.horizon (c.fill.new.self ++ drop a.n a.values.now) a.arrivals.now
fits c =
    let p = c.requires in
    record {
      sized = p.sized_game;
      gains = p.gains_room;
      rows = rw (cleared c, length-put) p.rows_room.0;
      spares = p.rows_room.1;
      steps = p.horizon_in_bounds.0;
      few = p.horizon_in_bounds.1;
    }

pub loop-init : goal.loop-init
loop-init c = begin _ _ _ _ _ (cleared (goal.at.loop-init c).After-fill)

pub prepare-requires-clause-valued : goal.prepare-requires-clause-valued
prepare-requires-clause-valued c = (preparable (fits (goal.at.prepare-requires-clause-valued c).After-fill) c.loop.invariant).1.0

pub invariant_of-ready-clause-valued : goal.invariant_of-ready-clause-valued
invariant_of-ready-clause-valued c =
    new_valued (fits (goal.at.invariant_of-ready-clause-valued c).After-fill) c.loop.invariant c.prepare.ensures

pub loop-preserved : goal.loop-preserved
loop-preserved c =
    more (fits (goal.at.loop-preserved c).After-fill) c.loop.invariant c.prepare.ensures c.loop-test.true c.value_round.ensures

pub prepare-requires-2-clause-valued : goal.prepare-requires-2-clause-valued
prepare-requires-2-clause-valued c = (preparable (fits (goal.at.prepare-requires-2-clause-valued c).After-fill) c.loop.invariant).1.0

pub returns : goal.returns
returns c =
    let start = (goal.at.returns c).After-fill in
    let e = end (fits start) c.loop.invariant c.prepare-2.ensures _ (cleared start) c.loop-test.false in
    record { row = e.0; words = e.1.0; arrivals = e.1.1 }

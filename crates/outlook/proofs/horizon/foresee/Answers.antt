-- `outlook::horizon::foresee`: after so many turns both rows for so many steps, and the number of words of so many inputs.
-- Assumes nothing.
use Rattle.std.proofs.Common.{◌++◌, ◌≡◌}
use lib.ListN.{drop}
use Rattle.records.specs.Model.Lists.{put}
use Rattle.values.specs.Model.Tables.{game_with}
use Rattle.values.specs.Laws.Cleared.{front_filled}
use Rattle.outlook.proofs.Foreseeing.{Fits, begin, best_asks, least_asks, round_asks, more, end}
use Rattle.outlook.proofs.horizon.foresee.Goals.{After-fill-2, Start}
use Rattle.outlook.proofs.horizon.foresee.Goals as goal

fits : (s : Start) → let a = s.args in Fits (game_with a.game.now a.gains.now) a.n a.horizon
fits s =
    let p = s.requires in
    record {
      sized = p.sized_game;
      gains = p.gains_room;
      steps = p.horizon_in_bounds.0;
      few = p.horizon_in_bounds.1;
    }

cleared : (c : After-fill-2)
    → let a = c.args in
    (c.fill.new.self ++ drop a.n a.bests.now ≡ put a.bests.now a.n (λ k. 0))
    × (c.fill-2.new.self ++ drop a.n a.leasts.now ≡ put a.leasts.now a.n (λ k. 0))
cleared c = (
  front_filled _ c.requires.rows_room.0 (c.fill.ensures.after (λ y e. e)),
  front_filled _ c.requires.rows_room.1 (c.fill-2.ensures.after (λ y e. e)),
)

pub loop-init : goal.loop-init
loop-init c =
    let e = cleared (goal.at.loop-init c).After-fill-2 in begin _ _ _ _ _ _ _ e.0 e.1 c.requires.rows_room c.requires.spares_room

pub prepare-requires-clause-valued : goal.prepare-requires-clause-valued
prepare-requires-clause-valued c = (best_asks (fits (goal.at.prepare-requires-clause-valued c).Start) c.loop.invariant).1.0

pub prepare-requires-in-loop-clause-valued : goal.prepare-requires-in-loop-clause-valued
prepare-requires-in-loop-clause-valued c =
    (least_asks (fits (goal.at.prepare-requires-in-loop-clause-valued c).Start) c.loop.invariant).1.0

pub invariant_of-ready : goal.invariant_of-ready
invariant_of-ready c =
    let p = round_asks (fits (goal.at.invariant_of-ready c).Start) c.loop.invariant c.prepare.ensures c.prepare-in-loop.ensures in
    record { sized = p.0; high = p.1.0; low = p.1.1.0 }

pub loop-preserved : goal.loop-preserved
loop-preserved c =
    more (fits (goal.at.loop-preserved c).Start) c.loop.invariant c.prepare.ensures c.prepare-in-loop.ensures c.loop-test.true
    c.sums_round.ensures.best c.sums_round.ensures.least

pub returns : goal.returns
returns c =
    let e = cleared (goal.at.returns c).After-fill-2 in
    let r = end (fits (goal.at.returns c).Start) c.loop.invariant _ _ e.0 e.1 c.loop-test.false in
    record { best = r.0; least = r.1.0; words = r.1.1 }

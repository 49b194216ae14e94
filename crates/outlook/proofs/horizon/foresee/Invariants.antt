-- `outlook::horizon::foresee`: after so many turns both rows for so many steps, and the number of words of so many inputs.
-- Assumes nothing.
use Rattle.values.specs.Model.Tables.{game_with}
use Rattle.outlook.proofs.Foreseeing.{Foreseen}
use Rattle.outlook.proofs.horizon.foresee.Given as goal

abbrev pub invariant-loop : goal.invariant-loop
invariant-loop l =
    Foreseen (game_with l.game l.gains) l.n l.horizon l.initial.bests l.initial.leasts l.initial.highs l.initial.lows
    l.bests l.leasts l.highs l.lows l.factor l.counter

-- `values::values::TableGame::value_rows`: after so many turns the row for so many steps, and the number of words of so many inputs.
-- Assumes nothing.
use Rattle.values.specs.Model.Tables.{game_with}
use Rattle.values.proofs.Iterating.{Iterated}
use Rattle.values.proofs.values.TableGame.value_rows.Given as goal

abbrev pub invariant-loop : goal.invariant-loop
invariant-loop l =
    Iterated (game_with l.self l.gains) l.n l.horizon l.initial.values l.initial.arrivals l.values l.arrivals l.factor l.counter

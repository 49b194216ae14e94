-- The game that a table's slices and numbers of inputs and outputs make.
-- Assumes nothing.
use Rattle.std.specs.Prelude.{List, ℕ}
use Rattle.values.specs.Model.Values.{Game}
use Rattle.values.specs.Model.Sizes.{game_of}
use Rattle.values.specs.Model.Arrivals.{arrival_game}
use Rattle.values.specs.Model.GuardNumbering.{steps_of}
use Rattle.values.specs.declared.values.StepCells.{StepCells}
use Rattle.values.specs.declared.values.TableGame.{TableGame}

-- its steps alone
abbrev pub steps_in : StepCells → Game
steps_in s = steps_of s.cells.now s.ins s.outs

-- with what steps earn
abbrev pub game_with : TableGame → List ℕ → Game
game_with t gains = game_of t.steps.cells.now t.dropped.now gains t.bonuses.now t.steps.ins t.steps.outs

-- where what a step earns stands in the arrivals
abbrev pub game_in : TableGame → Game
game_in t = arrival_game t.steps.cells.now t.dropped.now t.bonuses.now t.steps.ins t.steps.outs

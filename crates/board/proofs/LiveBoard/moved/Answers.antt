-- `board::LiveBoard::moved`: one deviation more where the output is not the proposal. Assumes nothing.
use Rattle.std.proofs.Common.{arith, refl, cond, Bool, true, false, ◌≡◌, ◌≤◌}
use mir.Val.{bool_byte}
use Rattle.board.specs.Meaning.BoardStep.{board_moved}
use Rattle.board.specs.Laws.LiveFacts.{Live, live_facts}
use Rattle.board.proofs.LiveBoard.moved.Goals.{Start}
use Rattle.board.proofs.LiveBoard.moved.Goals as goal

facts : (c : Start) → Live c.args.self.board
facts c = live_facts _ c.args.self.live

-- a flag as a number
number : (flag : Bool) → bool_byte flag ≡ cond flag 1 0
number true = refl
number false = refl

most : (flag : Bool) → bool_byte flag ≤ 1
most true = omega arith
most false = omega arith

pub overflow_add-board : goal.overflow_add-board
overflow_add-board c = let h = facts (goal.at.overflow_add-board c).Start in omega arith

pub overflow_add-board-2 : goal.overflow_add-board-2
overflow_add-board-2 c = let h = facts (goal.at.overflow_add-board-2 c).Start in omega (arith, most c.deviates-more.result)

pub returns : goal.returns
unfolding board_moved
returns c = simp (c.run_at.ensures, number, c.deviates-more.ensures)

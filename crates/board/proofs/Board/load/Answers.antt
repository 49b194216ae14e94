-- `board::Board::load`: the tests in the definition's order. Assumes nothing.
use Rattle.std.proofs.Common.{false, ◌≡◌}
use Rattle.records.specs.Laws.Tests.{said}
use Rattle.board.specs.Meaning.Board.{live}
use Rattle.board.specs.Meaning.Load.{load_on}
use Rattle.guard_table.specs.Laws.LoadableFacts.{loadable-head}
use Rattle.board.proofs.Promises.{load_promise}
use Rattle.board.proofs.Board.load.Goals.{Else-is_live}
use Rattle.board.proofs.Board.load.Goals as goal

-- the board counts as empty past the first test
idle : (c : Else-is_live) → live c.args.self ≡ false
idle c = said c.is_live.ensures c.if-is_live.false

pub returns-then-is_live : goal.returns-then-is_live
unfolding load_on
returns-then-is_live c = load_promise _ _ _ (simp (c.refused.ensures, said c.is_live.ensures c.if-is_live.true))

pub returns-then-not-is_loadable : goal.returns-then-not-is_loadable
unfolding load_on
returns-then-not-is_loadable c =
    load_promise _ _ _
    (simp (c.refused-then-not-is_loadable.ensures, idle (goal.at.returns-then-not-is_loadable c).Else-is_live, said c.is_loadable.ensures c.if-not-is_loadable.true))

pub board_of-requires : goal.board_of-requires
board_of-requires c = (loadable-head _ (said c.is_loadable.ensures c.if-not-is_loadable.false)).long

pub returns : goal.returns
unfolding load_on
returns c =
    load_promise _ _ _
    (simp (idle (goal.at.returns c).Else-is_live, said c.is_loadable.ensures c.if-not-is_loadable.false, c.board_of.ensures))

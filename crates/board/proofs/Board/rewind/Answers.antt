-- `board::Board::rewind`: one test. Assumes nothing.
use Rattle.records.specs.Laws.Tests.{said}
use Rattle.board.specs.Meaning.Board.{rewind_on}
use Rattle.board.proofs.Promises.{rewind_promise}
use Rattle.board.proofs.Board.rewind.Goals as goal

pub returns-then-not-is_live : goal.returns-then-not-is_live
unfolding rewind_on
returns-then-not-is_live c = rewind_promise _ _ (simp (c.refused.ensures, said c.is_live.ensures c.if-not-is_live.true))

pub returns : goal.returns
unfolding rewind_on
returns c = rewind_promise _ _ (simp (said c.is_live.ensures c.if-not-is_live.false, c.run_at.ensures))

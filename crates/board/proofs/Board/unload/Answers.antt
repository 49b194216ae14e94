-- `board::Board::unload`: one test. Assumes nothing.
use Rattle.records.specs.Laws.Tests.{said}
use Rattle.board.specs.Meaning.Board.{unload_on}
use Rattle.board.proofs.Promises.{unload_promise}
use Rattle.board.proofs.Board.unload.Goals as goal

pub returns-then-not-is_live : goal.returns-then-not-is_live
unfolding unload_on
returns-then-not-is_live c = unload_promise _ _ (simp (c.refused.ensures, said c.is_live.ensures c.if-not-is_live.true))

pub returns : goal.returns
unfolding unload_on
returns c = unload_promise _ _ (simp (said c.is_live.ensures c.if-not-is_live.false, c.empty.ensures.whole))

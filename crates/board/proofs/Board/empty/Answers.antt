-- `board::Board::empty` is the empty board. Assumes nothing.
use Rattle.std.proofs.Common.{refl}
use Rattle.board.specs.Meaning.Board.{empty_board}
use Rattle.board.proofs.Promises.{empty_promise}
use Rattle.board.proofs.Board.empty.Goals as goal

pub returns : goal.returns
unfolding empty_board
returns c = empty_promise _ refl

-- What a call on a board's bytes leaves, and what it answers: as the call on the board that they stand for.
-- Assumes nothing.
use Rattle.std.specs.Prelude.{cond, List, ℕ, ◌+◌, ◌*◌, eqb}
use Rattle.game.specs.Meaning.Book.{Call, Answer}
use Rattle.board.specs.Meaning.Calls.{board_after, says}
use Rattle.board.specs.declared.Board.{Board}
use Rattle.board_bytes.specs.Meaning.BoardBytes.{board_in, board_bytes}

-- the bytes of the board handed back; on a refusal no byte is changed, be the bytes a board's or not
unfoldable pub bytes_after : List ℕ → ℕ → Board → List ℕ
bytes_after before number board = cond (eqb number 0) (board_bytes board) before

-- what a call answers, and the bytes that it leaves
abbrev pub bytes_say : List ℕ → Call (List ℕ) → Answer
bytes_say before c = says (board_in before) c

abbrev pub bytes_on : List ℕ → Call (List ℕ) → List ℕ
bytes_on before c = bytes_after before (bytes_say before c).number (board_after (board_in before) c)

-- an answer as one number; the output is 0 but of a step that is not refused
abbrev pub in_one : Answer → ℕ
in_one a = a.number + 65536 * a.output

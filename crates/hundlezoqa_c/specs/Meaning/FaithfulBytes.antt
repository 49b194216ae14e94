-- Demand 3 over boards that are 16 bytes, as other languages have them.
-- Assumes nothing.
use Rattle.std.specs.Prelude.{◌≡◌, false, List, ℕ, length}
use Rattle.records.specs.Meaning.Limits.{max_steps}
use Rattle.game.specs.Meaning.Book.{Call, Lent}
use Rattle.game.specs.Meaning.Machine.{Agrees}
use Rattle.sheet.specs.Meaning.Decoded.{Decoded}
use Rattle.product.specs.Meaning.Step.{inputs_of, advance, first_tuple}
use Rattle.board.specs.Meaning.Board.{live}
use Rattle.board_bytes.specs.Meaning.BoardBytes.{board_length, board_in}
use Rattle.board_bytes.specs.Meaning.ByteCalls.{bytes_say, bytes_on}
use Rattle.guard.specs.Meaning.Faithful.{Move, Shows}

-- For every 16 bytes that count as an empty board, whatever they are, and every list of calls on them in which the table is lent: the
-- run book can be kept in exactly one way, its refusals and outputs are the calls', and after each call, while the book holds a run,
-- the bytes show it.
abbrev pub FaithfulBytes : Decoded → ℕ → List ℕ → Type 0
FaithfulBytes d h table =
    (bytes : List ℕ) → length bytes ≡ board_length → live (board_in bytes) ≡ false → (cs : List (Call (List ℕ))) → Lent table false cs
    → Agrees (List ℕ) (List ℕ) bytes_on bytes_say (List ℕ) (inputs_of d) max_steps (advance d) (first_tuple d) (Move d h)
    (λ b run. Shows d (board_in b) run) bytes cs

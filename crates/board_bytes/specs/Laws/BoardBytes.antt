-- A board's bytes give the board back.
-- Assumes nothing.
use Rattle.std.specs.Prelude.{◌≡◌, refl, Bool, true, false, cond, ℕ, ◌+◌, ◌*◌, ◌/◌, ◌%◌, eqb}
use Rattle.std.proofs.Common.{arith}
use Rattle.records.specs.Meaning.Numbers.{u16_at}
use Rattle.board.specs.declared.Board.{Board}
use Rattle.board_bytes.specs.Meaning.BoardBytes.{u32_at, board_in, board_bytes}

-- a board that was written is read back
pub board_back : (b : Board) → board_in (board_bytes b) ≡ b
unfolding board_in board_bytes u32_at u16_at
board_back b = simp (bit b.loaded, two, four)
  where
    bit : (x : Bool) → eqb (cond x 1 0) 1 ≡ x
    bit true = refl
    bit false = refl

    two : (v : ℕ) → v % 256 + 256 * (v / 256) ≡ v
    two v = omega arith

    four : (v : ℕ) → v % 65536 + 65536 * (v / 65536) ≡ v
    four v = omega arith

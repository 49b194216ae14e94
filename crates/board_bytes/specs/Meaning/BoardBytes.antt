-- A board's 16 bytes: loaded, mode, inputs and outputs in one byte each, count and place in two, steps and deviations in four.
-- Assumes nothing.
use Rattle.std.specs.Prelude.{cond, List, ◌∷◌, ◌++◌, ℕ, ◌+◌, ◌*◌, ◌/◌, ◌%◌, eqb, get_or}
use Rattle.records.specs.Meaning.Numbers.{u16_at, u16_bytes}
use Rattle.board.specs.declared.Board.{Board}

-- ---- four-byte numbers, as two of two bytes

unfoldable pub u32_at : List ℕ → ℕ → ℕ
u32_at s at = u16_at s at + 65536 * u16_at s (at + 2)

abbrev pub u32_bytes : ℕ → List ℕ
u32_bytes v = u16_bytes (v % 65536) ++ u16_bytes (v / 65536)

-- ---- boards

abbrev pub board_length : ℕ
board_length = 16

-- the board that the bytes stand for: loaded by the byte 1 alone
unfoldable pub board_in : List ℕ → Board
board_in s =
    record {
      loaded = eqb (get_or s 0 0) 1;
      mode = get_or s 1 0;
      inputs = get_or s 2 0;
      outputs = get_or s 3 0;
      count = u16_at s 4;
      place = u16_at s 6;
      steps = u32_at s 8;
      deviations = u32_at s 12;
    }

-- the bytes of a board
unfoldable pub board_bytes : Board → List ℕ
board_bytes b =
    cond b.loaded 1 0 ∷ b.mode ∷ b.inputs ∷ b.outputs
    ∷ (u16_bytes b.count ++ (u16_bytes b.place ++ (u32_bytes b.steps ++ u32_bytes b.deviations)))

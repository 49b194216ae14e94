-- A board's fields, stored one after the other, are its bytes.
-- Assumes nothing.
use mathlib.Core.Path.{◌≡◌, ◌∙◌}
use mathlib.Core.Bool.{cond}
use mathlib.Core.List.{List, [], ◌∷◌, append-nil}
use Prim.Native.Nat.{ℕ}
use native.Mathlib.Omega.{arith}
use lib.ListN.{length, drop_of_length-le}
use lib.Seq.{sets}
use Rattle.records.specs.Laws.Lists.{sets_front}
use Rattle.records.specs.Meaning.Numbers.{u16_bytes}
use Rattle.board.specs.declared.Board.{Board}
use Rattle.board_bytes.specs.Meaning.BoardBytes.{u32_bytes, board_length, board_bytes}

-- stores that fill a list leave nothing of it
sets_whole : (s t : List ℕ) → length s ≡ length t → sets s 0 t ≡ t
sets_whole s t e = sets_front s t (omega arith) ∙ (rw (drop_of_length-le s {i = length t} (omega arith)) (append-nil t))

-- the fields one after the other fill a list of a board's length
pub fields_stored : (b : Board) (s : List ℕ) {first count place steps deviations : List ℕ} → length s ≡ board_length
    → first ≡ sets s 0 (cond b.loaded 1 0 ∷ b.mode ∷ b.inputs ∷ b.outputs ∷ [])
    → count ≡ sets first 4 (u16_bytes b.count)
    → place ≡ sets count 6 (u16_bytes b.place)
    → steps ≡ sets place 8 (u32_bytes b.steps)
    → deviations ≡ sets steps 12 (u32_bytes b.deviations)
    → deviations ≡ board_bytes b
unfolding board_bytes
fields_stored b s e f c p t d = rw (d, t, p, c, f) (sets_whole s (board_bytes b) e)

-- A table that is faithful on boards is faithful on their bytes.
-- Assumes nothing.
use Rattle.std.specs.Prelude.{List, ℕ}
use Rattle.sheet.specs.Meaning.Decoded.{Decoded}
use Rattle.board_bytes.specs.Meaning.BoardBytes.{board_in}
use Rattle.board_bytes.specs.Laws.ByteCalls.{bytes_agree}
use Rattle.guard.specs.Meaning.Faithful.{Shows, Faithful}
use Rattle.hundlezoqa_c.specs.Meaning.FaithfulBytes.{FaithfulBytes}

pub faithful_bytes : (d : Decoded) (h : ℕ) (table : List ℕ) → Faithful d h table → FaithfulBytes d h table
faithful_bytes d h table f bytes long empty cs lent = bytes_agree (Shows d) bytes cs (f (board_in bytes) empty cs lent)

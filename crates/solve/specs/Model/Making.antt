-- The answer that is due, by the model: 10, the sheet's number, then 7, 8 and 9; and what the result then holds.
-- Assumes nothing.
use Rattle.std.specs.Prelude.{◌≡◌, Bool, cond, List, [], ℕ, ltb, leb, eqb, length, Result, Ok, Err}
use Rattle.std.proofs.lemmas.List.Edits.{sets}
use Rattle.records.specs.Meaning.Limits.{max_states}
use Rattle.sheet.specs.Meaning.Decoded.{Decoded}
use Rattle.sheet.specs.Model.Where.{decoded}
use Rattle.sheet.specs.Model.Reader.{reading}
use Rattle.sheet.specs.Meaning.Refusals.{sheet_number, first_number}
use Rattle.sheet.specs.declared.layout.Sheet.{Sheet}
use Rattle.sheet.specs.declared.layout.Refusal.{Refusal}
use Rattle.product.specs.Model.ProductNumbering.{state_count}
use Rattle.rounds.specs.Model.TableRounds.{is_in}
use Rattle.solve.specs.Model.Steps.{dropped_of}
use Rattle.solve.specs.declared.made.Made.{Made}
use Rattle.solve.specs.Meaning.Made.{made_number, made_length, made_states}

-- what stands for no sheet
abbrev no_sheet : Decoded
no_sheet = record { mode = 0; site = 0; outputs = 0; horizon = 0; matching = 0; literals = []; monitors = [] }

-- the sheet of a layout over these bytes, where there is one
abbrev pub read_as : List ℕ → Result Sheet Refusal → Decoded
read_as s (Ok h) = decoded s h
read_as s (Err cause) = no_sheet

-- the sheet that bytes stand for, where they are one's
unfoldable pub sheet_of : List ℕ → Decoded
sheet_of s = read_as s (reading s)

-- ---- the number that is due

-- 7: there are too many product states
unfoldable pub many_number : Decoded → ℕ
many_number d = cond (ltb max_states (state_count d)) 7 0

-- 8: the start is dropped
unfoldable pub lost_number : Decoded → ℕ
lost_number d = cond (is_in (dropped_of d) 0) 0 8

-- 9: the result is shorter than the table
unfoldable pub room_number : ℕ → ℕ → ℕ
room_number size room = cond (leb size room) 0 9

-- for a sheet in bounds, whose table has `size` bytes
unfoldable pub table_number : Decoded → ℕ → ℕ → ℕ
table_number d size room = first_number (many_number d) (first_number (lost_number d) (room_number size room))

-- 10, then the sheet's, then those of its table
unfoldable pub making_number : (Decoded → List ℕ) → Bool → List ℕ → ℕ → ℕ
making_number table work s room =
    cond work (first_number (sheet_number s) (table_number (sheet_of s) (length (table (sheet_of s))) room)) 10

-- the same of any call: 7, then `stop` in the place of 8, then 9, for an answer of `size` bytes
unfoldable pub due_number : Decoded → ℕ → ℕ → ℕ → ℕ
due_number d stop size room = first_number (many_number d) (first_number stop (room_number size room))

unfoldable pub ordered_number : (Decoded → ℕ) → (Decoded → ℕ) → Bool → List ℕ → ℕ → ℕ
ordered_number stop size work s room =
    cond work (first_number (sheet_number s) (due_number (sheet_of s) (stop (sheet_of s)) (size (sheet_of s)) room)) 10

-- for a sheet in bounds: the answer and the result by the model
pub record Judges (table : Decoded → List ℕ) (stateCounts : Decoded → ℕ) (d : Decoded) (before : List ℕ) (r : Result Made Refusal)
    (after : List ℕ) : Type 0 where
  pub number : made_number r ≡ table_number d (length (table d)) (length before)
  pub size : made_length r ≡ cond (eqb (made_number r) 0) (length (table d)) 0
  pub states : made_states r ≡ cond (eqb (made_number r) 0) (stateCounts d) 0
  pub bytes : after ≡ cond (eqb (made_number r) 0) (sets before 0 (table d)) before

-- ---- the promise: `work` says that the work memory is long enough, `before` and `after` are the result memory

-- the answer and the result by the model
pub record Answers (table : Decoded → List ℕ) (stateCounts : Decoded → ℕ) (work : Bool) (s before : List ℕ) (r : Result Made Refusal)
    (after : List ℕ) : Type 0 where
  pub number : made_number r ≡ making_number table work s (length before)
  pub size : made_length r ≡ cond (eqb (made_number r) 0) (length (table (sheet_of s))) 0
  pub states : made_states r ≡ cond (eqb (made_number r) 0) (stateCounts (sheet_of s)) 0
  -- the table, then the old rest; on a refusal the old bytes
  pub bytes : after ≡ cond (eqb (made_number r) 0) (sets before 0 (table (sheet_of s))) before

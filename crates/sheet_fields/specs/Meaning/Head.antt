-- A head's fields in bounds (document 01, ground 3), by its bytes.
-- Assumes nothing.
use Rattle.std.specs.Prelude.{Bool, not, ◌&&◌, ◌||◌, List, ℕ, ◌+◌, ◌%◌, ltb, leb, eqb, get_or}
use Rattle.records.specs.Meaning.Bounded.{all}
use Rattle.records.specs.Meaning.Limits.{max_inputs, max_outputs, literal_end, lines_ok}
use Rattle.sheet_fields.specs.Meaning.Places.{head_numbers, mode_at, site_at, outputs_at, matching_at, literals_from}
use Rattle.sheet_fields.specs.Meaning.Lines.{guard_lines}

-- mode, site lines and output lines in bounds
unfoldable pub site_ok : ℕ → ℕ → ℕ → Bool
site_ok mode site outputs = leb site max_inputs && (leb outputs max_outputs && lines_ok mode (guard_lines mode site outputs) outputs)

-- no literal before the one at j names its line
unfoldable pub fresh_line : List ℕ → ℕ → ℕ → Bool
fresh_line s at j = all j (λ i. not (eqb (get_or s (at + i) 0 % 8) (get_or s (at + j) 0 % 8)))

-- a literal: a line below the outputs, 8 more if off is preferred, that no earlier literal names
unfoldable pub literal_ok : List ℕ → ℕ → ℕ → ℕ → Bool
literal_ok s at outputs j =
    ltb (get_or s (at + j) 0) literal_end && (ltb (get_or s (at + j) 0 % 8) outputs && fresh_line s at j)

unfoldable pub literals_ok : List ℕ → ℕ → ℕ → Bool
literals_ok s at outputs = all outputs (λ j. literal_ok s at outputs j)

-- the fields that are numbers, the horizon aside, and the body's size: a match weight in mode 1 only
unfoldable pub numbers_ok : ℕ → ℕ → ℕ → ℕ → ℕ → Bool
numbers_ok mode site outputs matching size =
    site_ok mode site outputs && (eqb size (head_numbers + outputs) && (eqb mode 1 || eqb matching 0))

-- size and fields, the horizon aside
unfoldable pub head_ok : List ℕ → ℕ → ℕ → Bool
head_ok s start size =
    leb head_numbers size
    && (numbers_ok (mode_at s start) (site_at s start) (outputs_at s start) (matching_at s start) size
    && literals_ok s (literals_from start) (outputs_at s start))

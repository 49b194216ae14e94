-- What the listing program prints for a sheet (document 01, 'Notebook sheets'), for all bytes on its standard input.
-- Assumes nothing.
use Rattle.std.specs.Prelude.{◌≡◌, Bool, true, cond, List, [], ◌⊎◌, ℕ, ◌≤◌, ◌<◌, ltb, leb, eqb, length, take, Option}
use Rattle.std.proofs.lemmas.List.Edits.{sets}
use Rattle.std.specs.Io.KnownBytes.{Appends}
use Rattle.sheet.specs.Meaning.Decoded.{Decoded}
use Rattle.sheet.specs.Meaning.Refusals.{sheet_number, first_number}
use Rattle.solve.specs.Meaning.Allowed.{TooMany, Unrealizable, IsSheet, Accepted}
use Rattle.solve.specs.Model.Making.{sheet_of, many_number, lost_number}
use Rattle.plan.specs.Model.GuardOfSheet.{guard_table_of}
use Rattle.guard.specs.Promises.GuardMaker.{Rows}
use Rattle.listing_text.specs.Meaning.Listing.{listing_of, refused_text, too_long_text}

-- the most bytes of a sheet
abbrev pub sheet_most : ℕ
sheet_most = 16_384

-- the ground for which a sheet is not accepted, 0 for none: 1 to 6, then 7, then 8
unfoldable pub sheet_ground : List ℕ → ℕ
sheet_ground s = first_number (sheet_number s) (first_number (many_number (sheet_of s)) (lost_number (sheet_of s)))

-- the listing of its guard, or the line of its refusal
unfoldable pub guard_text : List ℕ → List ℕ
guard_text s = cond (eqb (sheet_ground s) 0) (listing_of (guard_table_of (sheet_of s))) (refused_text (sheet_ground s))

unfoldable pub printed : List ℕ → List ℕ
printed s = cond (leb (length s) sheet_most) (guard_text s) too_long_text

-- ---- what a writer of it leaves: the text at the start of the memory, and its length

pub record Prints (words before : List ℕ) (r : ℕ) (after : List ℕ) : Type 0 where
  pub size : r ≡ length words
  pub bytes : after ≡ sets before 0 words
  pub inside : r ≤ length after

-- ---- what the text means, over the sheet whose bytes were given

pub record Tells (s words : List ℕ) : Type 0 where
  -- the bytes are no sheet's in bounds: the one of 1 to 6 that is due; else 7, else 8
  pub no_sheet : (((d : Decoded) × IsSheet s d) → ⊥) → words ≡ refused_text (sheet_number s)
  pub too_many : (d : Decoded) → IsSheet s d → TooMany d → words ≡ refused_text 7
  pub unrealizable : (d : Decoded) → IsSheet s d → (TooMany d → ⊥) → Unrealizable d → words ≡ refused_text 8
  -- the sheet is accepted: the listing of the table that has the rows of its guard, and no other has (`only` of the maker's promise)
  pub listed : (d : Decoded) → Accepted s d
      → (n : ℕ) × (table : List ℕ) × Rows d d.horizon n table × (words ≡ listing_of table)

-- of a sheet that is not too long, and of any
pub record PrintsGuard (s before : List ℕ) (r : ℕ) (after : List ℕ) : Type 0 where
  pub prints : Prints (guard_text s) before r after
  pub tells : Tells s (guard_text s)

pub record PrintsSheet (s before : List ℕ) (r : ℕ) (after : List ℕ) : Type 0 where
  pub prints : Prints (printed s) before r after
  pub too_long : sheet_most < length s → printed s ≡ too_long_text
  pub tells : length s ≤ sheet_most → Tells s (printed s)

-- ---- of what was read

-- a memory into which the input `whole` was read: `size` of its bytes at its start; `ended` says that the end was seen behind them
pub record ReadInto (whole memory : List ℕ) (size : ℕ) (ended : Bool) : Type 0 where
  pub room : size ≤ length memory
  pub held : size ≤ length whole
  pub front : take size memory ≡ take size whole
  pub end : ended ≡ true → length whole ≡ size

-- what is printed for the `size` bytes at the start of a memory: nothing where there may be more of the sheet
unfoldable pub read_text : List ℕ → ℕ → Bool → List ℕ
read_text memory size ended = cond (ltb sheet_most size) too_long_text (cond ended (guard_text (take size memory)) [])

-- by equation, for all arguments; and of every input that may have been read so, if its end was seen or the memory is full: what is
-- due for the whole of it
pub record PrintsRead (memory : List ℕ) (size : ℕ) (ended : Bool) (before : List ℕ) (r : ℕ) (after : List ℕ) : Type 0 where
  pub prints : Prints (read_text memory size ended) before r after
  pub whole : (w : List ℕ) → ReadInto w memory size ended → (ended ≡ true) ⊎ (size ≡ length memory) → PrintsSheet w before r after

-- ---- of a whole run

-- its output grew by what is due for an input of these bytes
pub record AppendsSheet (s : List ℕ) (old new : Option (List ℕ)) : Type 0 where
  pub appends : Appends old new (printed s)
  pub too_long : sheet_most < length s → printed s ≡ too_long_text
  pub tells : length s ≤ sheet_most → Tells s (printed s)

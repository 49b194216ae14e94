-- What the writers of text promise. `before` and `after` are the text memory.
-- Assumes nothing.
use Rattle.std.specs.Prelude.{◌≡◌, Bool, true, cond, ◌&&◌, List, ℕ, ◌+◌, ◌*◌, ◌≤◌, ltb, leb, eqb, length, take, Result, Ok, Err}
use Rattle.std.proofs.lemmas.List.Edits.{sets}
use Rattle.records.specs.Meaning.Answers.{number_in}
use Rattle.records.specs.Meaning.Limits.{max_states}
use Rattle.guard_table.specs.Meaning.Loadable.{loadable}
use Rattle.sheet.specs.Meaning.Grounds.{ground_number}
use Rattle.sheet.specs.declared.layout.Refusal.{Refusal}
use Rattle.solve.specs.declared.made.Made.{Made}
use Rattle.listing_text.specs.Meaning.Listing.{listing_of, refused_text}
use Rattle.report.specs.declared.ListRefusal.{ListRefusal}
use Rattle.report.specs.declared.ListRefusal.TheVariants.{NoTable, ShortText}

-- ---- an answer: document 01's number, 0 for none, and the length of the text, 0 on a refusal

abbrev pub refusal_number : ListRefusal → ℕ
refusal_number NoTable = 11
refusal_number ShortText = 9

abbrev pub listed_number : Result ℕ ListRefusal → ℕ
listed_number r = number_in refusal_number r

abbrev pub listed_length : Result ℕ ListRefusal → ℕ
listed_length (Ok size) = size
listed_length (Err cause) = 0

-- ---- what a writer does

-- the number for a text in memory of `room` bytes: 11 where none is due, for want of a table; else 9 exactly if it is longer
unfoldable pub text_number : Bool → List ℕ → ℕ → ℕ
text_number due words room = cond due (cond (ltb room (length words)) 9 0) 11

-- the number; then the text and the old rest, or on a refusal the old bytes
pub record Writes (due : Bool) (words before : List ℕ) (r : Result ℕ ListRefusal) (after : List ℕ) : Type 0 where
  pub number_is : listed_number r ≡ text_number due words (length before)
  pub size : listed_length r ≡ cond (eqb (listed_number r) 0) (length words) 0
  pub bytes : after ≡ cond (eqb (listed_number r) 0) (sets before 0 words) before
  -- and the whole text is there
  pub inside : listed_length r ≤ length after

-- no text is longer: a first line of at most 41 bytes, and a line of at most 101 for each state
abbrev pub text_length : ℕ
text_length = 41 + 101 * max_states

-- ---- what is told of a maker's answer, whose table, if it made one, is at the start of `result`

-- a listing is due of a table to load, a line of every refusal
unfoldable pub outcome_due : Result Made Refusal → List ℕ → Bool
outcome_due (Ok made) result = leb made.length (length result) && loadable (take made.length result)
outcome_due (Err cause) result = true

unfoldable pub outcome_text : Result Made Refusal → List ℕ → List ℕ
outcome_text (Ok made) result = listing_of (take made.length result)
outcome_text (Err cause) result = refused_text (ground_number cause)

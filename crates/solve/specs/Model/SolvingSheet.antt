-- What solving the sheet of any bytes leaves: a refusal by 10, 1 to 6 or 7, or the sheet, solved.
-- `ok` says that the work memory is long enough.
-- Assumes nothing.
use Rattle.std.specs.Prelude.{◌≡◌, Bool, true, cond, List, ℕ, Result, Ok, Err, IfOk}
use Rattle.sheet.specs.Meaning.Decoded.{Decoded}
use Rattle.sheet.specs.Meaning.Grounds.{ground_number, verdict_number}
use Rattle.sheet.specs.Meaning.Refusals.{sheet_number, first_number}
use Rattle.sheet.specs.Model.Where.{Fits, decoded}
use Rattle.sheet.specs.declared.layout.Refusal.{Refusal}
use Rattle.product.specs.Model.ProductNumbering.{state_count}
use Rattle.rounds.specs.Model.TableRounds.{is_in, kept_count}
use Rattle.solve.specs.Model.Steps.{dropped_of}
use Rattle.solve.specs.Model.Solve.{Solution}
use Rattle.solve.specs.Model.Making.{sheet_of, many_number}
use Rattle.solve.specs.declared.solving.Solved.{Solved}

-- 10, then the sheet's, then 7
unfoldable pub solving_number : Bool → List ℕ → ℕ
solving_number ok s = cond ok (first_number (sheet_number s) (many_number (sheet_of s))) 10

-- the sheet is in bounds and solved: its product states, how many of them are kept, and whether the start is
pub record SolvedSheet (ok : Bool) (s : List ℕ) (r : Solved) (tuples cells dropped : List ℕ) : Type 0 where
  pub long : ok ≡ true
  pub none : sheet_number s ≡ 0
  pub fits : Fits s r.sheet
  -- the sheet that is solved is the one that the bytes stand for
  pub same : decoded s r.sheet ≡ sheet_of s
  pub solution : Solution (decoded s r.sheet) r.states r.kept r.start tuples cells dropped

-- this, or a refusal
abbrev pub SolvesSheet : Bool → List ℕ → Result Solved Refusal → List ℕ → List ℕ → List ℕ → Type 0
SolvesSheet ok s (Err cause) tuples cells dropped = ground_number cause ≡ solving_number ok s
SolvesSheet ok s (Ok r) tuples cells dropped = SolvedSheet ok s r tuples cells dropped

-- ---- the answer: document 01's number, 0 for none, and its figures

pub record Figures (d : Decoded) (r : Solved) : Type 0 where
  pub states_are : r.states ≡ state_count d
  pub kept_are : r.kept ≡ kept_count (state_count d) (dropped_of d)
  pub start_is : r.start ≡ is_in (dropped_of d) 0

pub record SolvingAnswer (ok : Bool) (s : List ℕ) (r : Result Solved Refusal) : Type 0 where
  pub number : verdict_number r ≡ solving_number ok s
  pub figures : IfOk r (λ x. Figures (sheet_of s) x)

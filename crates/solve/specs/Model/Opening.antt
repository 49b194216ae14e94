-- What opening a sheet leaves: a refusal that stands for every table and result memory, or a solved sheet whose start is kept.
-- Assumes nothing.
use Rattle.std.specs.Prelude.{◌≡◌, Bool, true, cond, List, ℕ, Result, Ok, Err, IfOk}
use Rattle.sheet.specs.Meaning.Decoded.{Decoded}
use Rattle.sheet.specs.Meaning.Grounds.{verdict_number}
use Rattle.sheet.specs.Meaning.Refusals.{sheet_number, first_number}
use Rattle.sheet.specs.Model.Where.{Fits, decoded}
use Rattle.sheet.specs.declared.layout.Refusal.{Refusal}
use Rattle.solve.specs.Model.Solve.{Solution}
use Rattle.solve.specs.Model.Making.{sheet_of, many_number, lost_number, Judges, Answers}
use Rattle.solve.specs.Model.SolvingSheet.{Figures}
use Rattle.solve.specs.declared.made.Made.{Made}
use Rattle.solve.specs.declared.solving.Solved.{Solved}

-- the sheet is in bounds and solved, the start among the product states that are kept; and what is judged of its table is the answer
pub record Opened (ok : Bool) (s : List ℕ) (opened : Solved) (tuples cells dropped : List ℕ) : Type 0 where
  pub long : ok ≡ true
  pub fits : Fits s opened.sheet
  -- the sheet that is solved is the one that the bytes stand for
  pub same : decoded s opened.sheet ≡ sheet_of s
  pub solution : Solution (decoded s opened.sheet) opened.states opened.kept true tuples cells dropped
  pub answers : (table : Decoded → List ℕ) (stateCounts : Decoded → ℕ) {before : List ℕ} {r : Result Made Refusal} {after : List ℕ}
      → Judges table stateCounts (decoded s opened.sheet) before r after → Answers table stateCounts ok s before r after

-- the refusal is the answer, whatever the table and the result memory
abbrev pub Refuses : Bool → List ℕ → Refusal → Type 0
Refuses ok s cause =
    (table : Decoded → List ℕ) (stateCounts : Decoded → ℕ) (before : List ℕ)
    → Answers table stateCounts ok s before (Err cause) before

-- `ok` says that the work memory is long enough
abbrev pub Opens : Bool → List ℕ → Result Solved Refusal → List ℕ → List ℕ → List ℕ → Type 0
Opens ok s (Err cause) tuples cells dropped = Refuses ok s cause
Opens ok s (Ok opened) tuples cells dropped = Opened ok s opened tuples cells dropped

-- ---- the answer: document 01's number, 0 for none, and its figures

-- 10, then the sheet's, then 7, then 8
unfoldable pub opening_number : Bool → List ℕ → ℕ
opening_number ok s = cond ok (first_number (sheet_number s) (first_number (many_number (sheet_of s)) (lost_number (sheet_of s)))) 10

pub record OpenAnswer (ok : Bool) (s : List ℕ) (r : Result Solved Refusal) : Type 0 where
  pub number : verdict_number r ≡ opening_number ok s
  pub figures : IfOk r (λ x. Figures (sheet_of s) x)

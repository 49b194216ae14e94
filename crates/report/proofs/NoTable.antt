-- The answer to a slice that is no table. It stands here and not in specs/, so that an edit of its number is refused for what it says.
-- Assumes nothing.
use Rattle.std.proofs.Common.{◌≡◌, refl, arith, Bool, false, Result, Ok, Err, List, ℕ, ◌<◌, length}
use borrow.Author.Tests.{lt-leb}
use Rattle.sheet.specs.declared.layout.Refusal.{Refusal}
use Rattle.solve.specs.declared.made.Made.{Made}
use Rattle.report.specs.Promises.Report.{text_number, Writes, outcome_due, outcome_text}
use Rattle.report.specs.declared.ListRefusal.TheVariants.{NoTable}

pub writes_no_table : {due : Bool} {words before : List ℕ} → due ≡ false → Writes due words before (Err NoTable) before
unfolding text_number
writes_no_table e = record { number_is = rw e; size = refl; bytes = refl; inside = omega arith }

-- what was made is told so where it does not fit
module _ (made : Result Made Refusal) (result : List ℕ) {before : List ℕ} where
  module _ {table : Made} (e : made ≡ Ok table) where
    pub outcome_no_table : length result < table.length → Writes (outcome_due made result) (outcome_text made result) before (Err NoTable) before
    unfolding outcome_due
    outcome_no_table h = writes_no_table (rw (e, lt-leb table.length (length result) h))

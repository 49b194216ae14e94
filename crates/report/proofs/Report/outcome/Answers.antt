-- `report::Report::outcome`: by what was made. Assumes nothing.
use Rattle.std.proofs.Common.{arith, sym}
use lib.Seq.{length-take-le}
use Rattle.report.specs.Laws.ListingAnswers.{outcome_refused, outcome_listed}
use Rattle.report.proofs.NoTable.{outcome_no_table}
use Rattle.report.proofs.Report.outcome.Goals as goal

pub returns-then-res-table : goal.returns-then-res-table
returns-then-res-table c = outcome_no_table _ _ c.in-Ok.is (omega arith)

pub slice_bounds-list-end : goal.slice_bounds-list-end
slice_bounds-list-end c = sym (length-take-le _ _ (omega arith))

pub returns-else-res-table : goal.returns-else-res-table
returns-else-res-table c = outcome_listed _ _ c.in-Ok.is (omega arith) c.list.ensures

pub returns-in-Err : goal.returns-in-Err
returns-in-Err c = outcome_refused _ _ c.in-Err.is c.number.ensures c.refused.ensures

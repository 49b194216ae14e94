-- No refusal of a writer has the number 0.
-- Assumes nothing.
use Rattle.std.specs.Prelude.{◌<◌}
use Rattle.std.proofs.Common.{arith}
use Rattle.report.specs.Promises.Report.{refusal_number}
use Rattle.report.specs.declared.ListRefusal.{ListRefusal}
use Rattle.report.specs.declared.ListRefusal.TheVariants.{NoTable, ShortText}

pub list_refuses : (cause : ListRefusal) → 0 < refusal_number cause
list_refuses NoTable = omega arith
list_refuses ShortText = omega arith

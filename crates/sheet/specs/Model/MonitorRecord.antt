-- The model of a monitor's record: its fields judged, and the monitor that they give.
-- Assumes nothing.
use Rattle.std.specs.Prelude.{cond, List, ℕ, leb, Result, Ok, Err}
use Rattle.records.specs.Meaning.Limits.{max_monitors}
use Rattle.sheet_fields.specs.Meaning.Places.{role_at, weight_at, states_at, first_at, accept_from, rows_from}
use Rattle.sheet_fields.specs.Meaning.Monitor.{monitor_ok}
use Rattle.sheet.specs.Model.Layout.{with_monitor}
use Rattle.sheet.specs.declared.layout.Monitor.{Monitor}
use Rattle.sheet.specs.declared.layout.Sheet.{Sheet}
use Rattle.sheet.specs.declared.layout.Refusal.TheVariants.{BadMonitor, SeventhMonitor}
use Rattle.sheet.specs.declared.layout.Refusal.{Refusal}

-- the monitor of a body
unfoldable pub monitor_at : List ℕ → ℕ → Monitor
monitor_at s start =
    record {
      role = role_at s start;
      weight = weight_at s start;
      states = states_at s start;
      start = first_at s start;
      accept = accept_from start;
      rows = rows_from s start;
    }

-- a monitor is refused 5 before 4
unfoldable pub take_monitor : List ℕ → Sheet → ℕ → ℕ → Result Sheet Refusal
take_monitor s h start size =
    cond (leb max_monitors h.count) (Err SeventhMonitor)
    (cond (monitor_ok s h.mode h.site h.outputs start size) (Ok (with_monitor h (monitor_at s start))) (Err BadMonitor))

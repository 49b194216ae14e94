-- What the reader keeps of a sheet: its numbers and where its monitors lie.
-- Assumes nothing.
use Rattle.std.specs.Prelude.{◌+◌, set}
use Rattle.sheet.specs.declared.layout.Monitor.{Monitor}
use Rattle.sheet.specs.declared.layout.Sheet.{Sheet}

unfoldable pub no_monitor : Monitor
no_monitor = record { role = 0; weight = 0; states = 0; start = 0; accept = 0; rows = 0 }

-- the sheet with one more monitor
unfoldable pub with_monitor : Sheet → Monitor → Sheet
with_monitor h m =
    record {
      mode = h.mode;
      site = h.site;
      inputs = h.inputs;
      outputs = h.outputs;
      horizon = h.horizon;
      matching = h.matching;
      literals = h.literals;
      monitors = set h.monitors h.count m;
      count = h.count + 1;
    }

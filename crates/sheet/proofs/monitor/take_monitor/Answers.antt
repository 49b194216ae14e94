-- `sheet::monitor::take_monitor`: a body in order holds its four numbers. Assumes nothing.
use Rattle.std.proofs.Common.{arith}
use Rattle.records.specs.Laws.Tests.{said}
use Rattle.sheet.proofs.Facts.{monitor_least}
use Rattle.sheet.proofs.monitor.take_monitor.Goals as goal

pub monitor_at-requires : goal.monitor_at-requires
monitor_at-requires c = omega (arith, monitor_least _ _ _ _ _ _ (said c.monitor_ok.ensures c.if-not-monitor_ok.false))

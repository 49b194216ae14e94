-- `notebook::counters::put_sheet`: the bytes before k are stored. Assumes nothing.
use Rattle.records.specs.Laws.Stores.{Elements}
use Rattle.notebook.specs.Model.Counters.{sheet_byte}
use Rattle.notebook.proofs.counters.put_sheet.Given as goal

abbrev pub invariant-loop-k : goal.invariant-loop-k
invariant-loop-k l = Elements l.initial.sheet 0 (sheet_byte l.pair.n l.pair.m) l.k l.sheet

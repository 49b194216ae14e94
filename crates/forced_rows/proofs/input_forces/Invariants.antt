-- `forced_rows::input_forces`: the outputs before o do not escape. Assumes nothing.
use Rattle.std.proofs.Common.{false, ℕ, ◌<◌, ◌≡◌}
use Rattle.rounds.specs.Model.TableRounds.{cell_at, leads_in}
use Rattle.forced_rows.specs.Model.ForcedRows.{before_round}
use Rattle.forced_rows.proofs.input_forces.Given as goal

abbrev pub invariant-loop-o : goal.invariant-loop-o
invariant-loop-o l =
    let s = l.sifted in
    (p : ℕ) → p < l.o
    → leads_in s.table.cells.now (before_round l.round s.dropped.now) (cell_at s.table.ins s.table.outs l.k l.i p) ≡ false

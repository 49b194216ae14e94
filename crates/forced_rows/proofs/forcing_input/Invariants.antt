-- `forced_rows::forcing_input`: the inputs before i do not force. Assumes nothing.
use Rattle.std.proofs.Common.{false, ℕ, ◌<◌, ◌≡◌}
use Rattle.rounds.specs.Model.Tables.{over}
use Rattle.forced_rows.specs.Model.ForcedRows.{forces_at}
use Rattle.forced_rows.proofs.forcing_input.Given as goal

abbrev pub invariant-loop-i : goal.invariant-loop-i
invariant-loop-i l = (j : ℕ) → j < l.i → over l.sifted forces_at l.k j ≡ false

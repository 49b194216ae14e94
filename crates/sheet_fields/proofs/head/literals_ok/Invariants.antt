-- `sheet_fields::head::literals_ok`: the literals before j are in order. Assumes nothing.
use Rattle.std.proofs.Common.{true, ℕ, ◌<◌, ◌≡◌}
use Rattle.sheet_fields.specs.Meaning.Head.{literal_ok}
use Rattle.sheet_fields.proofs.head.literals_ok.Given as goal

abbrev pub invariant-loop-j : goal.invariant-loop-j
invariant-loop-j l = (k : ℕ) → k < l.j → literal_ok l.s l.at l.outputs k ≡ true

-- `forced_rows::forcing_input`: the inputs before i do not force. Assumes nothing.
use Rattle.std.proofs.Common.{arith, sym, ◌∙◌}
use Rattle.records.specs.Laws.Bounded.{least_hit, least_none}
use Rattle.records.specs.Laws.Tests.{said}
use Rattle.forced_rows.specs.Laws.ForcedRows.{forcing_kept, forcing_lost}
use Rattle.forced_rows.proofs.forcing_input.Goals as goal

pub returns-then-is_kept : goal.returns-then-is_kept
returns-then-is_kept c = sym (forcing_kept _ _ _ _ _ (said c.is_kept.ensures c.if-is_kept.true))

pub returns-then-input_forces : goal.returns-then-input_forces
returns-then-input_forces c =
    sym (
    forcing_lost _ _ _ _ _ (said c.is_kept.ensures c.if-is_kept.false)
    ∙ least_hit _ _ _ c.loop-i-test.true c.loop-i.invariant (said c.input_forces.ensures c.if-input_forces.true))

pub returns : goal.returns
returns c =
    sym (
    forcing_lost _ _ _ _ _ (said c.is_kept.ensures c.if-is_kept.false)
    ∙ least_none _ _ (λ j h. c.loop-i.invariant j (omega arith)))

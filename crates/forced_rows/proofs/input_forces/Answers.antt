-- `forced_rows::input_forces`: the outputs before o do not escape. Assumes nothing.
use Rattle.std.proofs.Common.{ap, arith, not, sym}
use Rattle.records.specs.Laws.Bounded.{any_of, any_none}
use Rattle.records.specs.Laws.Tests.{said}
use Rattle.rounds.specs.Model.TableRounds.{answered}
use Rattle.rounds.specs.Laws.CellPlaces.{leads_at}
use Rattle.forced_rows.specs.Model.ForcedRows.{forces_at}
use Rattle.forced_rows.proofs.input_forces.Goals as goal

pub escapes-requires : goal.escapes-requires
escapes-requires c =
    let s = c.args.sifted.now in
    leads_at s.table.steps (record { room = s.room; state = c.requires.state }) c.requires.input c.loop-o-test.true c.cell_at.ensures

pub returns-then-escapes : goal.returns-then-escapes
unfolding forces_at answered
returns-then-escapes c =
    sym (ap not (any_of _ _ _ c.loop-o-test.true (rw (← c.cell_at.ensures) (said c.escapes.ensures c.if-escapes.true))))

pub returns : goal.returns
unfolding forces_at answered
returns c = sym (ap not (any_none _ _ (λ p h. c.loop-o.invariant p (omega arith))))

-- `forced_rows::escapes`: a broken step, one to a kept state, one to a state that some round dropped. Assumes nothing.
use Rattle.std.proofs.Common.{eqb, false, leb, sym, ◌||◌, ◌∙◌, ◌≡◌}
use lib.ListN.{get_or}
use borrow.Author.Tests.{eq-eqb, ne_eqb}
use Rattle.records.specs.Laws.Tests.{said, or_left}
use Rattle.records.specs.Model.Cells.{is_broken}
use Rattle.rounds.specs.Model.TableRounds.{leads_in}
use Rattle.forced_rows.specs.Model.ForcedRows.{before_round}
use Rattle.forced_rows.specs.Laws.ForcedRows.{before_in}
use Rattle.forced_rows.proofs.escapes.Goals.{Else-is_broken}
use Rattle.forced_rows.proofs.escapes.Goals as goal

-- past the first test the step is unbroken, so the answer is about the entry of the state that it leads to
answer : (c : Else-is_broken) → let a = c.args in
    let by = get_or a.dropped.now (get_or a.cells.now a.at 0) 0 in
    leads_in a.cells.now (before_round a.round a.dropped.now) a.at ≡ eqb by 0 || leb a.round by
unfolding leads_in
answer c =
    let unbroken : is_broken (get_or c.args.cells.now c.args.at 0) ≡ false = said c.is_broken.ensures c.if-is_broken.false in
    rw unbroken (before_in _ _ _ (c.requires.target unbroken))

pub returns-then-is_broken : goal.returns-then-is_broken
unfolding leads_in
returns-then-is_broken c = rw (said c.is_broken.ensures c.if-is_broken.true)

pub returns-then-dropped_by-eq0 : goal.returns-then-dropped_by-eq0
returns-then-dropped_by-eq0 c =
    sym (answer (goal.at.returns-then-dropped_by-eq0 c).Else-is_broken ∙ or_left _ _ (eq-eqb _ _ c.if-dropped_by-eq0.true))

pub returns : goal.returns
returns c = sym (answer (goal.at.returns c).Else-is_broken ∙ rw (ne_eqb _ _ c.if-dropped_by-eq0.false))

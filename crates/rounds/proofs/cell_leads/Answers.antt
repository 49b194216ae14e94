-- `rounds::cell_leads`: a broken step, one to a state that the round has dropped, one to another. Assumes nothing.
use Rattle.std.proofs.Common.{false, ◌≡◌}
use lib.ListN.{get_or}
use Rattle.records.specs.Laws.Tests.{said}
use Rattle.records.specs.Model.Cells.{is_broken}
use Rattle.rounds.specs.Model.TableRounds.{is_in}
use Rattle.rounds.proofs.Start.{leads_broken, leads_back, leads_else}
use Rattle.rounds.proofs.cell_leads.Goals.{Else-is_broken}
use Rattle.rounds.proofs.cell_leads.Goals as goal

-- past the first test the step is unbroken
unbroken : (c : Else-is_broken) → is_broken (get_or c.args.cells.now c.args.at 0) ≡ false
unbroken c = said c.is_broken.ensures c.if-is_broken.false

pub returns-then-is_broken : goal.returns-then-is_broken
returns-then-is_broken c = leads_broken _ _ _ _ (said c.is_broken.ensures c.if-is_broken.true)

pub returns-then-dropped_by-round : goal.returns-then-dropped_by-round
returns-then-dropped_by-round c =
    let e = unbroken (goal.at.returns-then-dropped_by-round c).Else-is_broken in
    leads_back _ _ _ _ e (c.requires.target e) c.if-dropped_by-round.true

pub returns : goal.returns
unfolding is_in
returns c =
    let e = unbroken (goal.at.returns c).Else-is_broken in
    leads_else _ _ _ _ e (c.requires.target e) c.if-dropped_by-round.false

-- `values::values::RoundGame::offer_of`: an output's cell, read once. Assumes nothing.
use Rattle.std.proofs.Common.{arith, refl}
use Rattle.records.specs.Laws.Tests.{said}
use Rattle.rounds.specs.Laws.CellPlaces.{CellLeads}
use Rattle.values.proofs.Offers.{asked, leads_inside, scorable, offer_none, offer_made}
use Rattle.values.proofs.values.RoundGame.offer_of.Goals.{After-cell_at-at}
use Rattle.values.proofs.values.RoundGame.offer_of.Goals as goal

-- what reading the cell asks
leads : (c : After-cell_at-at) → let a = c.args in CellLeads a.self.now.game.steps.cells.now a.self.now.game.dropped.now c.cell_at-at.result
leads c =
    let p = c.requires in
    (asked p.ready _ p.input (omega arith) p.output).leads _ c.cell_at-at.ensures

pub leads_to_kept-requires : goal.leads_to_kept-requires
leads_to_kept-requires c = leads (goal.at.leads_to_kept-requires c).After-cell_at-at

pub returns-then-not-leads_to_kept : goal.returns-then-not-leads_to_kept
returns-then-not-leads_to_kept c =
    offer_none _ _ _ _ _ _ c.cell_at-at.ensures (said c.leads_to_kept.ensures c.if-not-leads_to_kept.true)

pub offset_bounds-self-at : goal.offset_bounds-self-at
offset_bounds-self-at c = omega (arith, (leads (goal.at.offset_bounds-self-at c).After-cell_at-at).within)

pub bounds-self-at : goal.bounds-self-at
bounds-self-at c = (leads (goal.at.bounds-self-at c).After-cell_at-at).within

pub score_of-requires : goal.score_of-requires
score_of-requires c =
    let p = c.requires in
    let may = said c.leads_to_kept.ensures c.if-not-leads_to_kept.false in
    scorable p.ready _ p.input p.output (leads_inside p.ready _ p.input p.output c.cell_at-at.ensures may)

pub returns : goal.returns
returns c =
    let may = said c.leads_to_kept.ensures c.if-not-leads_to_kept.false in
    offer_made _ _ _ _ _ _ c.cell_at-at.ensures refl may refl c.score_of.ensures

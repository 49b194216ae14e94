-- `rounds::StepTable::state_stays`: the inputs before i have a step to a state that was in; the cells before the one looked at
-- have none at input i.
-- Assumes nothing.
use Rattle.std.proofs.Common.{arith}
use Rattle.records.specs.Laws.Tests.{said}
use Rattle.records.specs.Laws.Bounded.{all_none, all_more}
use Rattle.rounds.proofs.Search.{search_begin, search_more, search_found, one_failed, all_passed}
use Rattle.rounds.proofs.StepTable.state_stays.Goals.{else-inputs-test, then-inputs-test+then-end-at}
use Rattle.rounds.proofs.StepTable.state_stays.Goals as goal

pub inputs-init : goal.inputs-init
inputs-init c = (omega arith, all_none _)

pub search-init : goal.search-init
search-init c = search_begin _ _ _ _ _ _

pub search-preserved : goal.search-preserved
search-preserved c =
    search_more _ _ _ _ _ c.inputs-test.true c.search.invariant (omega (arith, c.if-end-at.false))
    (said c.cell_leads.ensures c.if-cell_leads.false)

pub inputs-preserved : goal.inputs-preserved
inputs-preserved c = (
  omega arith,
  all_more _ _ c.inputs.invariant.1
      (search_found _ _ _ _ _ c.inputs-test.true c.search.invariant (omega (arith, c.if-end-at.false))
      (said c.cell_leads.ensures c.if-cell_leads.true)),
)

pub returns : goal.returns
returns c =
    elim c.inputs-test.branch [
      | else-inputs-test w ↦ all_passed _ _ _ _ _ c.inputs.invariant.0 w.inputs-test.false c.inputs.invariant.1
      | then-inputs-test+then-end-at w ↦ one_failed _ _ _ _ _ w.inputs-test.true w.search.invariant w.if-end-at.true
    ]

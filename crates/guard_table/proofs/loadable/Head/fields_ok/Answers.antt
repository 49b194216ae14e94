-- `guard_table::loadable::Head::fields_ok`: the tests in the definition's order. Assumes nothing.
use Rattle.std.proofs.Common.{true, ◌≡◌, ◌∙◌}
use Rattle.records.specs.Laws.Tests.{said, both_ways}
use Rattle.records.specs.Meaning.Limits.{lines_ok, horizon_ok}
use Rattle.records.specs.Laws.Limits.{lines_facts}
use Rattle.guard_table.specs.Meaning.Loadable.{fields_ok}
use Rattle.guard_table.proofs.loadable.Head.fields_ok.Goals.{Then-horizon_ok, then-lines_ok, else-lines_ok}
use Rattle.guard_table.proofs.loadable.Head.fields_ok.Goals as goal

-- the first two tests, both passed or not
lines : (c : Then-horizon_ok) → let h = c.args.self.now in lines_ok h.mode h.inputs h.outputs ≡ true
lines c =
    elim c.if-lines_ok.branch [
      | then-lines_ok w ↦ said c.lines_ok.ensures w.if-lines_ok.true
      | else-lines_ok w ↦ both_ways (said w.value-is c.if-horizon_ok.true) w.if-lines_ok.false
    ]

far : (c : Then-horizon_ok) → let h = c.args.self.now in horizon_ok h.inputs h.horizon ≡ true
far c =
    elim c.if-lines_ok.branch [
      | then-lines_ok w ↦ said w.horizon_ok.ensures (said w.value-is c.if-horizon_ok.true)
      | else-lines_ok w ↦ both_ways (said w.value-is c.if-horizon_ok.true) w.if-lines_ok.false
    ]

pub size_ok-requires : goal.size_ok-requires
size_ok-requires c = (lines_facts _ _ _ (lines c)).inputs_most

pub returns-then-horizon_ok : goal.returns-then-horizon_ok
unfolding fields_ok
returns-then-horizon_ok c =
    let here = (goal.at.returns-then-horizon_ok c).Then-horizon_ok in
    simp (lines here, far here) c.size_ok.ensures

pub returns-else-horizon_ok : goal.returns-else-horizon_ok
unfolding fields_ok
returns-else-horizon_ok c =
    elim c.if-lines_ok.branch [
      | then-lines_ok w ↦
          c.if-horizon_ok.false
          ∙ simp (said c.lines_ok.ensures w.if-lines_ok.true, said w.horizon_ok.ensures (said w.value-is c.if-horizon_ok.false))
      | else-lines_ok w ↦ c.if-horizon_ok.false ∙ simp (said c.lines_ok.ensures w.if-lines_ok.false)
    ]

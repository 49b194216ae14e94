-- `guard_table::loadable::headed`: the tests in the definition's order. Assumes nothing.
use Rattle.std.proofs.Common.{arith, true, refl, ◌≡◌, ◌≤◌}
use lib.ListN.{length}
use Rattle.records.specs.Laws.Tests.{said}
use Rattle.guard_table.specs.Meaning.GuardTable.{shown_length}
use Rattle.guard_table.specs.Meaning.Loadable.{table_head_ok}
use Rattle.guard_table.specs.Laws.LoadableFacts.{shown_long, head-lines, head_sized}
use Rattle.guard_table.proofs.loadable.headed.Goals.{In_ok-kind, Else-not-fields_ok}
use Rattle.guard_table.proofs.loadable.headed.Goals as goal

-- the slice shows its rows' kind, and so is long enough
long : (c : In_ok-kind) → shown_length ≤ length c.args.t.now
long c = shown_long _ c.in_ok-kind.ensures.0

pub returns-in_err-kind : goal.returns-in_err-kind
unfolding table_head_ok
returns-in_err-kind c = rw c.from_residual.ensures (simp c.in_err-kind.ensures)

pub head_is-requires : goal.head_is-requires
head_is-requires c = omega (arith, long c)

pub returns-then-not-head_is : goal.returns-then-not-head_is
unfolding table_head_ok
returns-then-not-head_is c = simp (c.in_ok-kind.ensures.0, said c.head_is.ensures c.if-not-head_is.true)

pub read-head-requires : goal.read-head-requires
read-head-requires c = shown_long _ c.in_ok-kind.ensures.0

pub returns-then-not-fields_ok : goal.returns-then-not-fields_ok
unfolding table_head_ok
returns-then-not-fields_ok c =
    let shown = c.in_ok-kind.ensures in
    simp (shown.0, said c.head_is.ensures c.if-not-head_is.false, ← shown.1)
    (rw c.read-head.ensures at (said c.fields_ok.ensures c.if-not-fields_ok.true))

-- the head is a table's
head : (c : Else-not-fields_ok) → table_head_ok c.args.t.now ≡ true
unfolding table_head_ok
head c =
    let shown = c.in_ok-kind.ensures in
    simp (shown.0, said c.head_is.ensures c.if-not-head_is.false, ← shown.1)
    (rw c.read-head.ensures at (said c.fields_ok.ensures c.if-not-fields_ok.false))

pub invariant_of-layout : goal.invariant_of-layout
invariant_of-layout c =
    rw c.read-head.ensures (record { inputs_most = (head-lines _ (head (goal.at.invariant_of-layout c).Else-not-fields_ok)).inputs_most })

pub invariant_of-result : goal.invariant_of-result
invariant_of-result c =
    let here = (goal.at.invariant_of-result c).Else-not-fields_ok in
    rw c.read-head.ensures
    (record {
      shown = c.in_ok-kind.ensures.1;
      sized = head_sized _ (head here);
      outputs_most = (head-lines _ (head here)).outputs_most;
    })

pub returns : goal.returns
returns c = rw c.read-head.ensures (head (goal.at.returns c).Else-not-fields_ok, refl, refl, refl, refl)

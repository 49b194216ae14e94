-- `guard_table::loadable::Head::size_ok`: the tests in the definition's order. Assumes nothing.
use Rattle.std.proofs.Common.{arith, leb, leb-true, true, ◌≡◌, ◌∙◌}
use borrow.Author.Tests.{le-leb}
use Rattle.records.specs.Laws.Tests.{said}
use Rattle.guard_table.specs.Meaning.RowKind.{states_most}
use Rattle.guard_table.specs.Laws.RowKind.{states_most_lem}
use Rattle.guard_table.specs.Meaning.Loadable.{size_ok}
use Rattle.guard_table.proofs.loadable.Head.size_ok.Goals.{Then-count-states, Else-count-states, then-count-ge1, else-count-ge1}
use Rattle.guard_table.proofs.loadable.Head.size_ok.Goals as goal

-- the first two tests, both passed or not
some : (c : Then-count-states) → leb 1 c.args.self.now.count ≡ true
some c =
    elim c.if-count-ge1.branch [
      | then-count-ge1 w ↦ le-leb 1 _ w.if-count-ge1.true
      | else-count-ge1 w ↦ said w.value-is c.if-count-states.true
    ]

named : (c : Then-count-states) → let h = c.args.self.now in leb h.count (states_most h.kind) ≡ true
named c =
    elim c.if-count-ge1.branch [
      | then-count-ge1 w ↦ rw w.states.ensures at (said w.value-is c.if-count-states.true)
      | else-count-ge1 w ↦ absurd (omega (arith, leb-true _ _ (said w.value-is c.if-count-states.true)))
    ]

pub table_length-requires : goal.table_length-requires
table_length-requires c =
    let h = c.args.self.now in
    omega (arith, leb-true _ _ (named (goal.at.table_length-requires c).Then-count-states), states_most_lem h.kind)

pub returns-then-count-states : goal.returns-then-count-states
unfolding size_ok
returns-then-count-states c =
    let here = (goal.at.returns-then-count-states c).Then-count-states in
    simp (some here, named here, c.table_length.ensures)

pub returns-else-count-states : goal.returns-else-count-states
unfolding size_ok
returns-else-count-states c =
    elim c.if-count-ge1.branch [
      | then-count-ge1 w ↦
          c.if-count-states.false
          ∙ simp (le-leb 1 _ w.if-count-ge1.true, rw w.states.ensures at (said w.value-is c.if-count-states.false))
      | else-count-ge1 w ↦ c.if-count-states.false ∙ simp (said w.value-is c.if-count-states.false)
    ]

-- `guard_table::loadable::SizedTable::row_ok`: the header, then the entries. Assumes nothing.
use Rattle.std.proofs.Common.{arith, Bool, false, true, ◌≡◌, ◌∙◌}
use Rattle.records.specs.Laws.Tests.{said}
use Rattle.guard_table.specs.Meaning.RowKind.{kind_number}
use Rattle.guard_table.specs.Meaning.GuardTable.{row_size, row_at, header_is, kind_of}
use Rattle.guard_table.specs.Model.Inside.{RowInside}
use Rattle.guard_table.specs.Laws.GuardTable.{sized_row, header_inside}
use Rattle.guard_table.specs.Meaning.Loadable.{row_ok}
use Rattle.guard_table.proofs.loadable.SizedTable.row_ok.Goals.{After-row_is}
use Rattle.guard_table.proofs.loadable.SizedTable.row_ok.Goals as goal

-- the header was tested where the row of the kind shown begins
headed : (c : After-row_is) (f : Bool) → c.row_is.result ≡ f →
    let t = c.args.self.now.bytes.now in
    let inputs = c.args.self.now.layout.inputs in
    header_is t (row_at (kind_of t) inputs c.args.place) (row_size (kind_of t) inputs) (kind_number (kind_of t)) ≡ f
headed c f e = rw (← c.args.self.now.shown, ← c.row_at-at.ensures.0, ← c.row_size-size.ensures.0) (said c.row_is.ensures e)

pub row_is-requires : goal.row_is-requires
row_is-requires c =
    let s = c.args.self.now in
    let inside : RowInside s.bytes.now s.layout.kind s.layout.inputs c.args.place = rw s.shown (sized_row s.sized c.requires) in
    omega (arith, header_inside _ inside, c.row_at-at.ensures.0)

pub returns-then-row_is : goal.returns-then-row_is
unfolding row_ok
returns-then-row_is c = simp (headed (goal.at.returns-then-row_is c).After-row_is true c.if-row_is.true, c.entries_ok.ensures)

pub returns-else-row_is : goal.returns-else-row_is
unfolding row_ok
returns-else-row_is c = c.if-row_is.false ∙ simp (headed (goal.at.returns-else-row_is c).After-row_is false c.if-row_is.false)

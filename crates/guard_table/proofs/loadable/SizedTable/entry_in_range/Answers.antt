-- `guard_table::loadable::SizedTable::entry_in_range`: the output's test, then the next state's. Assumes nothing.
use Rattle.std.proofs.Common.{arith, refl, ◌+◌, ◌<◌, ◌^◌, ◌≡◌, ◌≤◌}
use lib.ListN.{length, get_or}
use lib.Pow.{pow_mono}
use borrow.Author.Tests.{le-ltb, lt-ltb}
use Rattle.records.specs.Meaning.Limits.{max_inputs}
use Rattle.guard_table.specs.Meaning.GuardTable.{output_in}
use Rattle.guard_table.specs.Meaning.Loadable.{entry_ok}
use Rattle.guard_table.specs.Meaning.RowKind.{entry_width}
use Rattle.guard_table.specs.Model.Inside.{Inside}
use Rattle.guard_table.specs.Laws.RowKind.{width-least}
use Rattle.guard_table.specs.Laws.GuardTable.{sized_row, entry_inside, entry_lies, entry_read}
use Rattle.guard_table.proofs.loadable.SizedTable.entry_in_range.Goals.{Start, After-entry_at-at}
use Rattle.guard_table.proofs.loadable.SizedTable.entry_in_range.Goals as goal

-- there is such an entry
placed : (c : Start) → Inside c.args.self.now.bytes.now c.args.self.now.layout.inputs c.args.place c.args.input
placed c = entry_inside (sized_row c.args.self.now.sized c.requires.state) c.requires.input

-- which lies inside the table
inside : (c : After-entry_at-at) → c.entry_at-at.result + entry_width c.args.self.now.layout.kind ≤ length c.args.self.now.bytes.now
inside c =
    entry_lies _ _ _ _ c.args.self.now.shown c.entry_at-at.ensures
    (entry_inside (sized_row c.args.self.now.sized c.requires.state) c.requires.input)

-- and begins by its output
output : (c : After-entry_at-at) → let s = c.args.self.now in
    get_or s.bytes.now c.entry_at-at.result 0 ≡ output_in s.bytes.now s.layout.inputs c.args.place c.args.input
output c = (entry_read _ _ _ _ c.args.self.now.shown c.entry_at-at.ensures refl).0

pub entry_at-at-requires : goal.entry_at-at-requires
entry_at-at-requires c =
    let i = placed (goal.at.entry_at-at-requires c).Start in
    let few : 2 ^ c.args.self.now.layout.inputs ≤ 16 = pow_mono {j = max_inputs} i.inputs_most in
    (i.place_most, omega (arith, i.low))

pub bounds-self-at : goal.bounds-self-at
bounds-self-at c = omega (arith, inside (goal.at.bounds-self-at c).After-entry_at-at, width-least c.args.self.now.layout.kind)

pub overflow_add-at : goal.overflow_add-at
overflow_add-at c = omega (arith, inside (goal.at.overflow_add-at c).After-entry_at-at, width-least c.args.self.now.layout.kind)

pub next_at-requires : goal.next_at-requires
next_at-requires c = omega (arith, inside (goal.at.next_at-requires c).After-entry_at-at)

pub returns-then-pow2-self : goal.returns-then-pow2-self
unfolding entry_ok
returns-then-pow2-self c =
    let at = (goal.at.returns-then-pow2-self c).After-entry_at-at in
    let most : 2 ^ c.args.self.now.outputs ≤ get_or c.args.self.now.bytes.now c.entry_at-at.result 0 =
    omega (arith, c.pow2.ensures, c.if-pow2-self.true) in
    rw (← output at, le-ltb _ _ most) refl

pub returns : goal.returns
unfolding entry_ok
returns c =
    let at = (goal.at.returns c).After-entry_at-at in
    let read = entry_read _ _ _ _ c.args.self.now.shown c.entry_at-at.ensures c.next_at.ensures in
    let low : get_or c.args.self.now.bytes.now c.entry_at-at.result 0 < 2 ^ c.args.self.now.outputs =
    omega (arith, c.pow2.ensures, c.if-pow2-self.false) in
    rw (← output at, lt-ltb _ _ low, read.1) refl

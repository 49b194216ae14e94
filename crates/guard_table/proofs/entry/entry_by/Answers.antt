-- `guard_table::entry::entry_by`: the bytes where the layout puts them. Assumes nothing.
use Rattle.std.proofs.Common.{arith, ◌+◌, ◌^◌, ◌≤◌}
use lib.ListN.{length}
use lib.Pow.{pow_mono}
use Rattle.records.specs.Meaning.Limits.{max_inputs}
use Rattle.guard_table.specs.Meaning.RowKind.{entry_width}
use Rattle.guard_table.specs.Laws.RowKind.{width-least}
use Rattle.guard_table.specs.Laws.GuardTable.{entry_lies, entry_read}
use Rattle.guard_table.proofs.entry.entry_by.Goals.{After-entry_at-at}
use Rattle.guard_table.proofs.entry.entry_by.Goals as goal

-- the entry lies inside the table
inside : (c : After-entry_at-at) → c.entry_at-at.result + entry_width c.args.layout.kind ≤ length c.args.table.now
inside c = entry_lies _ _ _ _ c.requires.shown c.entry_at-at.ensures c.requires.inside

pub entry_at-at-requires : goal.entry_at-at-requires
entry_at-at-requires c =
    let i = c.requires.inside in
    let few : 2 ^ c.args.layout.inputs ≤ 16 = pow_mono {j = max_inputs} i.inputs_most in
    (i.place_most, omega (arith, i.low))

pub bounds-table-at : goal.bounds-table-at
bounds-table-at c = omega (arith, inside (goal.at.bounds-table-at c).After-entry_at-at, width-least c.args.layout.kind)

pub overflow_add-at : goal.overflow_add-at
overflow_add-at c = omega (arith, inside (goal.at.overflow_add-at c).After-entry_at-at, width-least c.args.layout.kind)

pub next_at-requires : goal.next_at-requires
next_at-requires c = omega (arith, inside (goal.at.next_at-requires c).After-entry_at-at)

pub returns : goal.returns
returns c = entry_read _ _ _ _ c.requires.shown c.entry_at-at.ensures c.next_at.ensures

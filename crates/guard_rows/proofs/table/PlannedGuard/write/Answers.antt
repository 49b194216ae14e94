-- `guard_rows::table::PlannedGuard::write`: the head and the rows, one after the other. Assumes nothing.
use Rattle.std.proofs.Common.{arith}
use Rattle.guard_table.specs.Meaning.GuardTable.{length_in}
use Rattle.values.specs.Model.Tables.{steps_in}
use Rattle.guard_rows.proofs.Stores.{table-stored}
use Rattle.guard_rows.proofs.table.PlannedGuard.write.Goals as goal

pub put_head-requires : goal.put_head-requires
unfolding length_in
put_head-requires c = omega (arith, c.requires.1.1)

pub returns : goal.returns
returns c =
    let a = c.args in
    table-stored a.res.now a.sheet.mode a.sheet.inputs a.sheet.outputs a.horizon a.self.now.count
    (steps_in a.self.now.steps) a.self.now.rows.now a.self.now.order.now a.self.now.numbers.now
    c.put_head.ensures c.put_rows.ensures

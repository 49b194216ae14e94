-- `guard_rows::table::PlannedGuard::put_rows`: the records of the guard states before j are stored. Assumes nothing.
use Rattle.std.proofs.Common.{subst, sym, ℕ, ◌≡◌, ◌≤◌}
use lib.ListN.{length, get_or}
use Rattle.guard_table.specs.Meaning.RowKind.{kind_for}
use Rattle.guard_table.specs.Meaning.GuardTable.{length_in, row_at}
use Rattle.guard_table.specs.declared.kind.RowKind.{RowKind}
use Rattle.guard_table.specs.Laws.GuardTable.{row_inside, row_kept, length-row}
use Rattle.guard_table.specs.Model.Inside.{RowInside}
use Rattle.values.specs.Model.Tables.{steps_in}
use Rattle.records.specs.Laws.Stores.{no_block, same_blocks, more_blocks}
use Rattle.guard_rows.specs.Model.Entered.{Entered}
use Rattle.guard_rows.proofs.table.PlannedGuard.put_rows.Goals.{In-loop-j}
use Rattle.guard_rows.proofs.table.PlannedGuard.put_rows.Goals as goal

-- what holds of the kind for the count holds of the one that was found
found : (P : RowKind → Type 0) (count : ℕ) {k : RowKind} → k ≡ kind_for count → P (kind_for count) → P k
found P count e = subst P (sym e)

-- the row of guard state j lies inside the result
inside : (c : In-loop-j) → RowInside c.loop-j.res c.of.result c.args.lines c.loop-j.j
inside c =
    let long = found (λ k. length_in k c.args.lines c.args.self.now.count ≤ length c.args.res.now) c.args.self.now.count c.of.ensures c.requires.1.1 in
    row_kept c.of.result {t = c.args.res.now}
    (row_inside c.of.result c.requires.1.0 c.args.self.now.tabled.few long c.loop-j-test.true) (same_blocks c.loop-j.invariant)

pub loop-j-init : goal.loop-j-init
loop-j-init c = no_block

pub put_row-requires : goal.put_row-requires
put_row-requires c =
    let a = c.args in
    let j = c.loop-j.j in record {
      entered = found (λ k. Entered k (steps_in a.self.now.steps) (get_or a.self.now.rows.now j 0) a.self.now.numbers.now (get_or a.self.now.order.now j 0))
          a.self.now.count c.of.ensures (c.args.self.now.tabled.entered j c.loop-j-test.true);
      inside = (c.requires.0, inside (goal.at.put_row-requires c).In-loop-j);
    }

pub loop-j-preserved : goal.loop-j-preserved
unfolding row_at
loop-j-preserved c = more_blocks c.loop-j.invariant (λ q. length-row _ _ _ _) c.put_row.ensures

-- `supervisor::make::make_with`: the opening's refusals, then 9, and then the table is written. Assumes nothing.
use Rattle.std.proofs.Common.{arith, refl}
use Rattle.std.proofs.lemmas.Result.{err_from_is_err_and}
use Rattle.product.specs.Model.ProductNumbering.{state_count}
use Rattle.supervisor_table.specs.Model.MaskRows.{mask_table_length}
use Rattle.sheet.specs.Laws.LayoutFacts.{inputs_low, outputs_low}
use Rattle.product.specs.Laws.Counts.{few_inputs, few_outputs}
use Rattle.solve.specs.Laws.Solving.{layout_steps}
use Rattle.supervisor.specs.Model.SupervisorOfSheet.{supervisor_table}
use Rattle.supervisor.proofs.Layouts.{layout_short, layout_written}
use Rattle.supervisor.proofs.make.make_with.Goals as goal

pub returns-in_err-opened : goal.returns-in_err-opened
returns-in_err-opened c =
    let p = err_from_is_err_and c.from_residual.result c.from_residual.ensures.1 in
    rw (p.1, p.2) (c.in_err-opened.ensures.memory supervisor_table state_count c.args.res.now)

pub pow2-ins-requires : goal.pow2-ins-requires
pow2-ins-requires c = omega (arith, inputs_low c.in_ok-opened.ensures.memory.fits)

pub table_length-length-requires : goal.table_length-length-requires
table_length-length-requires c =
    let opened = c.in_ok-opened.ensures.memory in (few_inputs opened.fits c.pow2-ins.ensures, opened.solution.numbering.most)

pub returns-then-res-length : goal.returns-then-res-length
returns-then-res-length c =
    let opened = c.in_ok-opened.ensures.memory in
    opened.answers supervisor_table state_count
    (layout_short opened.fits opened.solution c.args.res.now _ c.pow2-ins.ensures refl
    c.table_length-length.ensures (omega arith))

pub pow2-requires : goal.pow2-requires
pow2-requires c = omega (arith, outputs_low c.in_ok-opened.ensures.memory.fits)

pub put_head-requires : goal.put_head-requires
unfolding mask_table_length
put_head-requires c = omega (arith, c.table_length-length.ensures)

pub invariant_of-table : goal.invariant_of-table
invariant_of-table c =
    let opened = c.in_ok-opened.ensures.memory in
    record {
      steps = layout_steps opened.fits opened.solution.numbering _ _ c.pow2-ins.ensures c.pow2.ensures
          (omega (arith, (c.requires opened.long).1.0, c.open_sheet.auto.cells));
    }

pub put_rows-requires-clause-ins_fit : goal.put_rows-requires-clause-ins_fit
put_rows-requires-clause-ins_fit c = few_inputs c.in_ok-opened.ensures.memory.fits c.pow2-ins.ensures

pub put_rows-requires-clause-outs_fit : goal.put_rows-requires-clause-outs_fit
put_rows-requires-clause-outs_fit c = few_outputs c.in_ok-opened.ensures.memory.fits c.pow2.ensures

pub returns : goal.returns
returns c =
    let opened = c.in_ok-opened.ensures.memory in
    opened.answers supervisor_table state_count
    (layout_written opened.fits opened.solution c.args.res.now _ c.pow2-ins.ensures refl
    c.table_length-length.ensures (omega arith) _ c.pow2.ensures c.put_head.ensures
    c.put_rows.ensures)

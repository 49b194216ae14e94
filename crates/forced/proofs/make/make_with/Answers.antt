-- `forced::make::make_with`: solving's refusals, then 23 and 9, and then the rows are written. Assumes nothing.
use Rattle.std.proofs.Common.{arith, rules, ◌≤◌}
use Rattle.std.proofs.lemmas.Result.{err_from_is_err_and}
use lib.ListN.{length}
use Rattle.sheet.specs.Laws.LayoutFacts.{inputs_low, outputs_low}
use Rattle.product.specs.Laws.Counts.{few_inputs, few_outputs}
use Rattle.solve.specs.Laws.Solving.{layout_steps}
use Rattle.forced.proofs.Answered.{plays-refused, plays-held, input_inside, plays_short, plays_written}
use Rattle.forced.proofs.make.make_with.Goals.{In_ok-solved}
use Rattle.forced.proofs.make.make_with.Goals as goal

-- every state has an entry
entered : (c : In_ok-solved) → c.in_ok-solved.solved.states ≤ length c.solve_sheet.new.dropped
entered c =
    let solved = c.in_ok-solved.ensures.memory in
    omega (arith, solved.solution.numbering.most, (c.requires solved.long).1.1, c.solve_sheet.auto.dropped)

pub returns-in_err-solved : goal.returns-in_err-solved
returns-in_err-solved c =
    let p = err_from_is_err_and c.from_residual.result c.from_residual.ensures.1 in
    rw (p.1, p.2) (plays-refused c.args.res.now _ c.in_err-solved.ensures.memory)

pub returns-then-solved : goal.returns-then-solved
returns-then-solved c = plays-held c.args.res.now c.in_ok-solved.ensures.memory c.if-solved.true

pub pow2-outs-requires : goal.pow2-outs-requires
pow2-outs-requires c = omega (arith, outputs_low c.in_ok-solved.ensures.memory.fits)

pub answer_length-length-requires : goal.answer_length-length-requires
answer_length-length-requires c =
    let solved = c.in_ok-solved.ensures.memory in (few_outputs solved.fits c.pow2-outs.ensures, solved.solution.numbering.most)

pub returns-then-res-length : goal.returns-then-res-length
returns-then-res-length c =
    plays_short c.args.res.now c.in_ok-solved.ensures.memory c.if-solved.false c.pow2-outs.ensures c.answer_length-length.ensures
    (omega arith)

pub pow2-requires : goal.pow2-requires
pow2-requires c = omega (arith, inputs_low c.in_ok-solved.ensures.memory.fits)

pub invariant_of-table : goal.invariant_of-table
invariant_of-table c =
    let solved = c.in_ok-solved.ensures.memory in
    record {
      steps = layout_steps solved.fits solved.solution.numbering _ _ c.pow2.ensures c.pow2-outs.ensures
          (omega (arith, (c.requires solved.long).1.0, c.solve_sheet.auto.cells));
    }

pub put_rows-requires : goal.put_rows-requires
put_rows-requires c =
    let solved = c.in_ok-solved.ensures.memory in
    record {
      ins_fit = few_inputs solved.fits c.pow2.ensures;
      outs_fit = few_outputs solved.fits c.pow2-outs.ensures;
      inputs_found = input_inside c.args.res.now solved c.pow2.ensures c.pow2-outs.ensures
          (entered (goal.at.put_rows-requires c).In_ok-solved);
      room = omega (arith, c.answer_length-length.ensures);
    }

pub returns : goal.returns
returns c =
    plays_written c.args.res.now c.in_ok-solved.ensures.memory c.if-solved.false c.pow2-outs.ensures c.answer_length-length.ensures
    (omega arith) c.pow2.ensures (entered (goal.at.returns c).In_ok-solved) c.put_rows.ensures (search rules) (search rules)

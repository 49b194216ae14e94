-- `sheet::reader::read_records`: a walk over records. The invariant: from here the walk gives what it gives from the head on.
-- Assumes nothing.
use Rattle.std.proofs.Common.{arith, ◌≡◌, ◌∙◌}
use Rattle.std.specs.Prelude.{Some, Ok}
use Rattle.std.proofs.lemmas.Result.{err_from_is_err_and}
use Rattle.records.specs.Laws.Cursor.{lies}
use Rattle.sheet.proofs.Walk.{begin, ended, cut, stopped, more}
use Rattle.sheet.proofs.reader.read_records.Goals.{In-Some}
use Rattle.sheet.proofs.reader.read_records.Goals as goal

-- what the cursor found
here : (c : In-Some) → c.read.result ≡ Ok (Some c.in-Some.found)
here c = c.in_ok-found.was ∙ rw c.in-Some.is

pub loop-found-init : goal.loop-found-init
loop-found-init c = begin _ _ _ c.requires

pub returns-in_err-found : goal.returns-in_err-found
returns-in_err-found c =
    let p = err_from_is_err_and c.from_residual.result c.from_residual.ensures.1 in
    rw (p.1, p.2) (cut c.loop-found.invariant c.read.ensures c.in_err-found.was)

pub invariant_of-body : goal.invariant_of-body
invariant_of-body c =
    let l = lies c.read.ensures (here (goal.at.invariant_of-body c).In-Some) in
    record { inside = omega (arith, l.is_next, l.inside) }

pub returns-in_err-sheet : goal.returns-in_err-sheet
returns-in_err-sheet c =
    let p = err_from_is_err_and c.from_residual-in_err-sheet.result c.from_residual-in_err-sheet.ensures.1 in
    rw (p.1, p.2)
    (stopped c.loop-found.invariant c.read.ensures (here (goal.at.returns-in_err-sheet c).In-Some) c.take_record.ensures
    c.in_err-sheet.was)

pub loop-found-smaller : goal.loop-found-smaller
loop-found-smaller c =
    let l = lies c.read.ensures (here (goal.at.loop-found-smaller c).In-Some) in
    omega (arith, l.is_start, l.is_next, l.inside)

pub loop-found-preserved : goal.loop-found-preserved
loop-found-preserved c =
    more c.loop-found.invariant c.read.ensures (here (goal.at.loop-found-preserved c).In-Some) c.take_record.ensures c.in_ok-sheet.was

pub returns : goal.returns
returns c = ended c.loop-found.invariant c.read.ensures (search c)

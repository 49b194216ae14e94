-- `sheet::reader::read_in_turn`: the first record is a head, and the walk goes on from it. Assumes nothing.
use Rattle.std.proofs.Common.{arith, eqb, true, ◌≡◌, ◌∙◌}
use Rattle.std.specs.Prelude.{Some, Ok}
use Rattle.std.proofs.lemmas.Result.{err_from_is_err_and}
use borrow.Author.Tests.{eq-eqb, ne_eqb}
use Rattle.records.specs.Laws.Cursor.{lies}
use Rattle.sheet.proofs.Walk.{head-lines, none_first, cut_first, no_head, bad_head, good_head}
use Rattle.sheet.proofs.reader.read_in_turn.Goals.{In-Some, In-1}
use Rattle.sheet.proofs.reader.read_in_turn.Goals as goal

-- what the cursor found
here : (c : In-Some) → c.read.result ≡ Ok (Some c.in-Some.record)
here c = c.in_ok-record.was ∙ rw c.in-Some.is

-- a head's kind
is-head : (c : In-1) → eqb c.in-Some.record.kind 1 ≡ true
is-head c = eq-eqb c.in-Some.record.kind 1 c.in-1.is

pub returns-in_err-record : goal.returns-in_err-record
returns-in_err-record c =
    let p = err_from_is_err_and c.from_residual.result c.from_residual.ensures.1 in
    rw (p.1, p.2) (cut_first c.first-cursor.ensures c.read.ensures c.in_err-record.was)

pub returns-in_default : goal.returns-in_default
returns-in_default c = none_first c.first-cursor.ensures c.read.ensures (search c)

pub invariant_of-body : goal.invariant_of-body
invariant_of-body c =
    let l = lies c.read.ensures (here (goal.at.invariant_of-body c).In-Some) in
    record { inside = omega (arith, l.is_next, l.inside) }

pub returns-in_err-head-in-1 : goal.returns-in_err-head-in-1
returns-in_err-head-in-1 c =
    let p = err_from_is_err_and c.from_residual-in_err-head-in-1.result c.from_residual-in_err-head-in-1.ensures.1 in
    rw (p.1, p.2)
    (bad_head c.first-cursor.ensures c.read.ensures (here (goal.at.returns-in_err-head-in-1 c).In-Some)
    (is-head (goal.at.returns-in_err-head-in-1 c).In-1) c.read_head.ensures c.in_err-head-in-1.was)

pub read_records-requires : goal.read_records-requires
read_records-requires c = head-lines _ _ _ (rw c.read_head.ensures at c.in_ok-head-in-1.was)

pub returns-in_ok-head-in-1 : goal.returns-in_ok-head-in-1
returns-in_ok-head-in-1 c =
    c.read_records.ensures
    ∙ good_head c.first-cursor.ensures c.read.ensures (here (goal.at.returns-in_ok-head-in-1 c).In-Some)
    (is-head (goal.at.returns-in_ok-head-in-1 c).In-1) c.read_head.ensures c.in_ok-head-in-1.was

pub returns-in-0 : goal.returns-in-0
returns-in-0 c =
    no_head c.first-cursor.ensures c.read.ensures (here (goal.at.returns-in-0 c).In-Some)
    (ne_eqb c.in-Some.record.kind 1 (λ z. omega arith))

pub returns-in-0-2 : goal.returns-in-0-2
returns-in-0-2 c =
    no_head c.first-cursor.ensures c.read.ensures (here (goal.at.returns-in-0-2 c).In-Some)
    (ne_eqb c.in-Some.record.kind 1 (λ z. omega arith))

-- `sheet::head::read_head`: a head in order lies inside the bytes. Assumes nothing.
use Rattle.std.proofs.Common.{arith}
use Rattle.records.specs.Laws.Tests.{said}
use Rattle.sheet_fields.specs.Meaning.Places.{site_at, outputs_at}
use Rattle.sheet_fields.specs.Laws.FieldFacts.{FieldNumbers, head_facts}
use Rattle.sheet.proofs.head.read_head.Goals.{Else-not-head_ok}
use Rattle.sheet.proofs.head.read_head.Goals as goal

-- what the test tells where it was passed
known : (c : Else-not-head_ok) → FieldNumbers (site_at c.args.body.now.bytes.now c.args.body.now.start) (outputs_at c.args.body.now.bytes.now c.args.body.now.start) c.args.body.now.size
known c = head_facts _ _ _ (said c.head_ok.ensures c.if-not-head_ok.false)

pub bounds-s-start : goal.bounds-s-start
bounds-s-start c = let h = known (goal.at.bounds-s-start c).Else-not-head_ok in omega arith

pub bounds-s-start-2 : goal.bounds-s-start-2
bounds-s-start-2 c = let h = known (goal.at.bounds-s-start-2 c).Else-not-head_ok in omega arith

pub bounds-s-start-3 : goal.bounds-s-start-3
bounds-s-start-3 c = let h = known (goal.at.bounds-s-start-3 c).Else-not-head_ok in omega arith

pub guard_lines-inputs-requires : goal.guard_lines-inputs-requires
guard_lines-inputs-requires c = let h = known (goal.at.guard_lines-inputs-requires c).Else-not-head_ok in omega arith

pub bounds-s-start-4 : goal.bounds-s-start-4
bounds-s-start-4 c = let h = known (goal.at.bounds-s-start-4 c).Else-not-head_ok in omega arith

pub head_sheet-requires : goal.head_sheet-requires
head_sheet-requires c = let h = known (goal.at.head_sheet-requires c).Else-not-head_ok in omega arith

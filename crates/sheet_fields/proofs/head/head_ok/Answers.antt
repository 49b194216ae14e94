-- `sheet_fields::head::head_ok`: a head whose numbers are in order has room for its literals. Assumes nothing.
use Rattle.std.proofs.Common.{arith, ◌∙◌}
use borrow.Author.Tests.{lt-leb}
use Rattle.records.specs.Laws.Tests.{both_ways, said}
use Rattle.sheet_fields.specs.Laws.FieldFacts.{numbers_facts}
use Rattle.sheet_fields.proofs.head.head_ok.Goals.{then-size-ge-HEAD, else-size-ge-HEAD}
use Rattle.sheet_fields.proofs.head.head_ok.Goals as goal

pub literals_ok-requires : goal.literals_ok-requires
literals_ok-requires c =
    elim c.if-size-ge-HEAD.branch [
      | then-size-ge-HEAD w ↦
          let h = numbers_facts _ _ _ _ _ (said w.numbers_ok.ensures (said w.value-is c.if-numbers_ok.true)) in
          omega arith
      | else-size-ge-HEAD w ↦ both_ways c.if-numbers_ok.true (w.value-is ∙ lt-leb _ _ (omega arith))
    ]

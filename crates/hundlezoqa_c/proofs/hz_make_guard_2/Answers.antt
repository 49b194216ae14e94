-- `hundlezoqa_c::hz_make_guard_2`: the maker's own promise, and its answer reported. Assumes nothing.
use Rattle.hundlezoqa_c.proofs.Reported.{reported_guard}
use Rattle.hundlezoqa_c.proofs.hz_make_guard_2.Goals as goal

pub returns-clause-made : goal.returns-clause-made
returns-clause-made c =
    reported_guard _ _ _ _
    (record {
      made = c.make-made.result;
      promised = c.make-made.ensures.made;
      number = c.report.ensures.number;
      figures = c.report.ensures.figures;
    })

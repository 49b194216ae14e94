-- `report::Report::too_long`: the line, where it fits. Assumes nothing.
use Rattle.std.proofs.Common.{arith, refl, rules}
use Rattle.listing_text.specs.Meaning.Listing.{too_long_text}
use Rattle.listing_text.specs.Laws.Written.{put_of, puts_as}
use Rattle.report.specs.Laws.ListingAnswers.{writes_text}
use Rattle.report.proofs.Report.too_long.Goals as goal

pub returns : goal.returns
returns c =
    let e = c.new-writer.ensures in
    let all = puts_as {ys = too_long_text} c.put_word.ensures refl in
    writes_text refl (put_of all e.at e.text (search (rules, all.same_reference, e.same_reference))) (omega arith)

-- `report::Report::refused`: 9, then the line. Assumes nothing.
use Rattle.std.proofs.Common.{List, ap, arith, refl, rules, ℕ, ◌<◌, ◌≡◌, ◌≤◌}
use lib.ListN.{length, length-append}
use Rattle.listing_text.specs.Meaning.Listing.{decimal, labelled, refused_text}
use Rattle.listing_text.specs.Laws.Pieces.{put_same}
use Rattle.listing_text.specs.Laws.Written.{put_of, puts_then}
use Rattle.listing_text.specs.Laws.Lengths.{length-refused}
use Rattle.listing_text.specs.Model.Puts.{Fits, Puts}
use Rattle.listing_text.specs.declared.writer.Writer.{Writer}
use Rattle.report.specs.Laws.ListingAnswers.{writes_text, writes_short}
use Rattle.report.proofs.Report.refused.Goals.{Else-text-number_length}
use Rattle.report.proofs.Report.refused.Goals as goal

-- past the test the line fits
room : (c : Else-text-number_length) → length (refused_text c.args.number) ≤ length c.args.text.now
room c = omega (arith, length-refused c.args.number)

pub returns-then-text-number_length : goal.returns-then-text-number_length
returns-then-text-number_length c = writes_short refl (omega (arith, length-refused c.args.number))

-- and so do any eight letters and the number
fits : (c : Else-text-number_length) (word : List ℕ) → length word ≡ 8 → (a : Writer) → a.at ≡ 0
    → length a.text.now ≡ length c.args.text.now → Fits a (labelled word c.args.number)
unfolding labelled
fits c word e a start same =
    let n = c.args.number in omega (arith, start, same, length-refused n, length-append word (decimal n))

pub put_labelled-requires : goal.put_labelled-requires
put_labelled-requires c =
    let at = goal.at.put_labelled-requires c in
    let e = c.new-writer.ensures in
    (omega arith, fits at.Else-text-number_length _ refl c.new-writer.result e.at (ap length e.text))

-- and a byte behind them
ends : (c : Else-text-number_length) (word : List ℕ) → length word ≡ 8 → {a b : Writer} → a.at ≡ 0
    → length a.text.now ≡ length c.args.text.now
    → Puts a (labelled word c.args.number) b → b.at < length b.text.now
unfolding labelled
ends c word e start same p =
    let n = c.args.number in
    omega (arith, start, same, p.put.place_is, put_same p.put, length-refused n, length-append word (decimal n))

pub put_byte-requires : goal.put_byte-requires
put_byte-requires c =
    let at = goal.at.put_byte-requires c in
    let e = c.new-writer.ensures in
    omega (arith, ends at.Else-text-number_length _ refl e.at (ap length e.text) c.put_labelled.ensures)

pub returns : goal.returns
unfolding refused_text
returns c =
    let at = goal.at.returns c in
    let e = c.new-writer.ensures in
    let all = puts_then c.put_labelled.ensures c.put_byte.ensures in
    writes_text refl (put_of all e.at e.text (search (rules, all.same_reference, e.same_reference))) (room at.Else-text-number_length)

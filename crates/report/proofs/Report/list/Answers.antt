-- `report::Report::list`: 11, then 9, then the listing. Assumes nothing.
use Rattle.std.proofs.Common.{arith, true, ◌≡◌, ◌≤◌}
use lib.ListN.{length}
use Rattle.records.specs.Laws.Tests.{said}
use Rattle.guard_table.specs.Meaning.Loadable.{loadable}
use Rattle.listing_text.specs.Meaning.Listing.{listing_of}
use Rattle.report.specs.Laws.ListingAnswers.{writes_text, writes_short, loadable_filled}
use Rattle.report.proofs.NoTable.{writes_no_table}
use Rattle.report.proofs.Report.list.Goals.{Else-not-is_loadable, Else-text-listing_length}
use Rattle.report.proofs.Report.list.Goals as goal

-- past the first test the slice is a table
is-table : (c : Else-not-is_loadable) → loadable c.args.table.now ≡ true
is-table c = said c.is_loadable.ensures c.if-not-is_loadable.false

-- and past the second its listing fits
room : (c : Else-text-listing_length) → length (listing_of c.args.table.now) ≤ length c.args.text.now
room c = omega (arith, c.listing_length.ensures)

pub returns-then-not-is_loadable : goal.returns-then-not-is_loadable
returns-then-not-is_loadable c = writes_no_table (said c.is_loadable.ensures c.if-not-is_loadable.true)

pub listing_length-requires : goal.listing_length-requires
listing_length-requires c = loadable_filled c.args.table.now (is-table c)

pub returns-then-text-listing_length : goal.returns-then-text-listing_length
returns-then-text-listing_length c =
    let at = goal.at.returns-then-text-listing_length c in
    writes_short (is-table at.Else-not-is_loadable) (omega (arith, c.listing_length.ensures))

pub put_listing-requires : goal.put_listing-requires
put_listing-requires c =
    let at = goal.at.put_listing-requires c in
    record {
      head_length_in_bounds = loadable_filled c.args.table.now (is-table at.Else-not-is_loadable);
      table_in_bounds = room at.Else-text-listing_length;
    }

pub returns : goal.returns
returns c =
    let at = goal.at.returns c in
    writes_text (is-table at.Else-not-is_loadable) c.put_listing.ensures (room at.Else-text-listing_length)

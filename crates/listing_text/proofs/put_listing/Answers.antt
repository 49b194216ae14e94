-- `listing_text::put_listing`: the first line, then the lines of the states. Assumes nothing.
use Rattle.std.proofs.Common.{List, length, ap, arith, rules, ℕ, ◌++◌, ◌≡◌}
use Rattle.records.specs.Meaning.Lists.{cat}
use Rattle.guard_table.specs.Meaning.GuardTable.{head_outputs, head_horizon}
use Rattle.listing_text.specs.Meaning.Listing.{head_line, row_of, listing_of}
use Rattle.listing_text.specs.Model.Puts.{Fits}
use Rattle.listing_text.specs.Laws.Pieces.{closed_parts}
use Rattle.listing_text.specs.Laws.Written.{put_of, puts_then, puts_as, fits_first, fits_second}
use Rattle.listing_text.proofs.put_listing.Goals.{After-new-writer}
use Rattle.listing_text.proofs.put_listing.Goals as goal

-- the two parts
abbrev head : After-new-writer → List ℕ
head c = let t = c.args.table.now in head_line c.of-closed.result.count c.of-closed.result.inputs (head_outputs t) (head_horizon t)

abbrev rows : After-new-writer → List ℕ
rows c = let r = c.of-closed.result in cat r.count (row_of r.bytes.now r.inputs)

parts : (c : After-new-writer) → head c ++ rows c ≡ listing_of c.args.table.now
parts c = let e = c.of-closed.ensures in closed_parts c.args.table.now e.bytes e.inputs e.count

room : (c : After-new-writer) → Fits c.new-writer.result (head c ++ rows c)
room c =
    let e = c.new-writer.ensures in omega (arith, ap length (parts c), c.requires.table_in_bounds, e.at, ap length e.text)

pub put_head-requires : goal.put_head-requires
put_head-requires c =
    let at = (goal.at.put_head-requires c).After-new-writer in (
      omega (arith, c.requires.head_length_in_bounds.1.sized.count_most, c.of-closed.ensures.count),
      fits_first c.new-writer.result (head at) (rows at) (room at),
    )

pub put_rows-requires : goal.put_rows-requires
put_rows-requires c =
    let at = (goal.at.put_rows-requires c).After-new-writer in
    record { room = fits_second c.put_head.ensures (rows at) (room at) }

pub returns : goal.returns
returns c =
    let at = (goal.at.returns c).After-new-writer in
    let all = puts_as (puts_then c.put_head.ensures c.put_rows.ensures) (parts at) in
    put_of all c.new-writer.ensures.at c.new-writer.ensures.text (search (rules, all.same_reference, c.new-writer.ensures.same_reference))

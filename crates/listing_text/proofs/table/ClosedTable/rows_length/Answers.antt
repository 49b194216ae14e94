-- `listing_text::table::ClosedTable::rows_length`: the lengths of the lines of the states before k are added up. Assumes nothing.
use Rattle.std.proofs.Common.{ap, arith, sym, ℕ, ◌∙◌, ◌≡◌}
use lib.ListN.{length}
use Rattle.records.specs.Meaning.Lists.{cat}
use Rattle.listing_text.specs.Meaning.Listing.{row_of}
use Rattle.listing_text.specs.Laws.Lengths.{length_none, length_more}
use Rattle.listing_text.proofs.table.ClosedTable.rows_length.Goals as goal

pub loop-k-init : goal.loop-k-init
loop-k-init c = (sym (length_none _), omega arith)

pub row_length-total-requires : goal.row_length-total-requires
row_length-total-requires c = c.loop-k-test.true

pub overflow_add-total : goal.overflow_add-total
overflow_add-total c = omega (arith, c.args.self.now.closed.sized.count_most)

pub loop-k-preserved : goal.loop-k-preserved
loop-k-preserved c = omega (arith, length_more c.loop-k.k (row_of c.args.self.now.bytes.now c.args.self.now.inputs))

pub returns : goal.returns
returns c =
    let all : c.loop-k.k ≡ c.args.self.now.count = omega (arith, c.loop-k.auto.k-end) in (
      c.loop-k.invariant.0 ∙ ap (λ (n : ℕ). length (cat n (row_of c.args.self.now.bytes.now c.args.self.now.inputs))) all,
      omega (arith, c.args.self.now.closed.sized.count_most),
    )

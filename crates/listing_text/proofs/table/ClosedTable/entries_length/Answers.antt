-- `listing_text::table::ClosedTable::entries_length`: the lengths of the entries of the inputs before i are added up. Assumes nothing.
use Rattle.std.proofs.Common.{ap, arith, sym, ℕ, ◌<◌, ◌^◌, ◌∙◌, ◌≡◌, ◌≤◌}
use lib.ListN.{length}
use lib.Pow.{pow_mono}
use Rattle.records.specs.Meaning.Lists.{cat}
use Rattle.guard_table.specs.Laws.GuardTable.{sized_row, entry_inside, next_few}
use Rattle.listing_text.specs.Meaning.Listing.{entry_of}
use Rattle.listing_text.specs.Laws.Pieces.{entry_found}
use Rattle.listing_text.specs.Laws.Lengths.{length_none, length_more}
use Rattle.listing_text.proofs.table.ClosedTable.entries_length.Goals.{After-entry_length-total, In-loop-i, Start}
use Rattle.listing_text.proofs.table.ClosedTable.entries_length.Goals as goal

-- the entries are few
few : (c : Start) → 2 ^ c.args.self.now.inputs ≤ 16
few c = pow_mono {j = 4} c.args.self.now.closed.sized.inputs_most

-- the input is one of those that there are
low : (c : In-loop-i) → c.loop-i.i < 2 ^ c.args.self.now.inputs
low c = omega (arith, c.pow2-i-end.ensures)

-- the length that was added is that of the next one
found : (c : After-entry_length-total) → c.entry_length-total.result ≡ length (entry_of c.args.self.now.bytes.now c.args.self.now.inputs c.args.k c.loop-i.i)
found c =
    c.entry_length-total.ensures.0 ∙ ap length (entry_found _ _ _ _ c.entry_in.ensures.0 c.entry_in.ensures.1)

pub pow2-i-end-requires : goal.pow2-i-end-requires
pow2-i-end-requires c = omega (arith, c.args.self.now.closed.sized.inputs_most)

pub loop-i-init : goal.loop-i-init
loop-i-init c = (sym (length_none _), omega arith)

pub entry_in-requires : goal.entry_in-requires
entry_in-requires c = entry_inside (sized_row c.args.self.now.closed.sized c.requires) (low (goal.at.entry_in-requires c).In-loop-i)

pub entry_length-total-requires : goal.entry_length-total-requires
entry_length-total-requires c =
    next_few c.args.self.now.closed _ _ c.requires (low (goal.at.entry_length-total-requires c).In-loop-i) c.entry_in.ensures.1

pub overflow_add-total : goal.overflow_add-total
overflow_add-total c = omega (arith, few (goal.at.overflow_add-total c).Start, c.pow2-i-end.ensures)

pub loop-i-preserved : goal.loop-i-preserved
loop-i-preserved c = omega (arith, found c, length_more c.loop-i.i (entry_of c.args.self.now.bytes.now c.args.self.now.inputs c.args.k))

pub returns : goal.returns
returns c =
    let all : c.loop-i.i ≡ 2 ^ c.args.self.now.inputs = omega (arith, c.pow2-i-end.ensures, c.loop-i.auto.i-end) in (
      c.loop-i.invariant.0 ∙ ap (λ (n : ℕ). length (cat n (entry_of c.args.self.now.bytes.now c.args.self.now.inputs c.args.k))) all,
      omega (arith, few (goal.at.returns c).Start),
    )

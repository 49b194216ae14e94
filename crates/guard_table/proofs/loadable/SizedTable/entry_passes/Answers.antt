-- `guard_table::loadable::SizedTable::entry_passes`: there is no such input, or the entry is tested. Assumes nothing.
use Rattle.std.proofs.Common.{arith, sym, ◌<◌, ◌^◌, ◌∙◌}
use borrow.Author.Tests.{le-leb}
use Rattle.guard_table.proofs.Entries.{passes-beyond, passes_inside}
use Rattle.guard_table.proofs.loadable.SizedTable.entry_passes.Goals.{Else-pow2-input}
use Rattle.guard_table.proofs.loadable.SizedTable.entry_passes.Goals as goal

inside : (c : Else-pow2-input) → c.args.input < 2 ^ c.args.self.now.layout.inputs
inside c = omega (arith, c.pow2.ensures)

pub returns-then-pow2-input : goal.returns-then-pow2-input
returns-then-pow2-input c =
    le-leb _ _ c.if-pow2-input.true ∙ sym (passes-beyond _ _ _ _ _ _ (omega (arith, c.pow2.ensures)))

pub entry_in_range-requires-clause-input : goal.entry_in_range-requires-clause-input
entry_in_range-requires-clause-input c = inside (goal.at.entry_in_range-requires-clause-input c).Else-pow2-input

pub returns-else-pow2-input : goal.returns-else-pow2-input
returns-else-pow2-input c =
    c.entry_in_range.ensures ∙ sym (passes_inside _ _ _ _ _ _ (inside (goal.at.returns-else-pow2-input c).Else-pow2-input))

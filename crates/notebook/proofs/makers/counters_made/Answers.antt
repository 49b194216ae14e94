-- `notebook::makers::counters_made`: what the maker answers to the bytes that were put. Assumes nothing.
use Rattle.std.proofs.Common.{List, ap, refl, subst, sym, ℕ, ◌∙◌}
use Rattle.std.proofs.lemmas.Fn.{says_at}
use Rattle.std.specs.Fn.{FnReturnsAt}
use lib.ListN.{length}
use Rattle.notebook.proofs.Answers.{counters_written}
use Rattle.notebook.proofs.makers.counters_made.Goals as goal

pub slice_bounds-sheet-end : goal.slice_bounds-sheet-end
slice_bounds-sheet-end g c = (counters_written c.args.pair.few c.put_sheet-size.ensures).inside

pub slice_bounds-maker-end : goal.slice_bounds-maker-end
slice_bounds-maker-end g c = c.put_sheet-size.ensures.1 ∙ sym (ap length (counters_written c.args.pair.few c.put_sheet-size.ensures).part)

pub returns : goal.returns
returns g c =
    subst (λ (s : List ℕ). FnReturnsAt g.F.Fn c.args.maker s c.maker.result) (counters_written c.args.pair.few c.put_sheet-size.ensures).part
    (says_at g.F.Fn c.maker.ensures refl)

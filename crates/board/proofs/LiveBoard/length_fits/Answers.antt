-- `board::LiveBoard::length_fits`: the kind that is shown, then the length. Assumes nothing.
use Rattle.records.specs.Laws.Limits.{lines_facts}
use Rattle.board.specs.Laws.LiveFacts.{live_facts}
use Rattle.board.specs.Meaning.BoardStep.{length_fits}
use Rattle.board.proofs.LiveBoard.length_fits.Goals as goal

pub invariant_of-layout : goal.invariant_of-layout
invariant_of-layout c = record { inputs_most = (lines_facts _ _ _ (live_facts _ c.args.self.live).lines).inputs_most }

pub table_length-requires : goal.table_length-requires
table_length-requires c = (live_facts _ c.args.self.live).count_most

pub returns-in-Some : goal.returns-in-Some
unfolding length_fits
returns-in-Some c = let shown = c.in-Some.ensures in simp (shown.0, c.table_length.ensures, shown.1)

pub returns-in-None : goal.returns-in-None
unfolding length_fits
returns-in-None c = simp c.in-None.ensures

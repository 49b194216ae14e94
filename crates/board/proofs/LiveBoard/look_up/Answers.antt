-- `board::LiveBoard::look_up`: in a slice of the right length the entry lies inside. Assumes nothing.
use Rattle.std.proofs.Common.{Bool, false, true, ◌≡◌}
use Rattle.records.specs.Laws.Tests.{said}
use Rattle.records.specs.Laws.Limits.{lines_facts}
use Rattle.guard_table.specs.Laws.GuardTable.{sized_row, entry_inside}
use Rattle.guard_table.specs.Laws.LoadableFacts.{entry_tested}
use Rattle.board.specs.Laws.LiveFacts.{live_facts}
use Rattle.board.specs.Laws.Calls.{fits_sized}
use Rattle.board.specs.Meaning.BoardStep.{length_fits, entry_fits, looked_up}
use Rattle.board.proofs.LiveBoard.look_up.Goals.{After-entry_ok, Else-not-length_fits}
use Rattle.board.proofs.LiveBoard.look_up.Goals as goal

fitting : (c : Else-not-length_fits) → length_fits c.args.self.board c.args.table.now ≡ true
fitting c = said c.length_fits.ensures c.if-not-length_fits.false

-- the test of the entry is the definition's
fits : (c : After-entry_ok) (f : Bool) → c.entry_ok.result ≡ f → let a = c.args in
    entry_fits a.self.board a.table.now a.input ≡ f
unfolding entry_fits
fits c f e =
    let fitting : length_fits c.args.self.board c.args.table.now ≡ true = said c.length_fits.ensures c.if-not-length_fits.false in
    simp (fitting)
    (entry_tested _ _ _ _ _ _ c.entry_in-entry.ensures.0 c.entry_in-entry.ensures.1 (said c.entry_ok.ensures e))

pub returns-then-not-length_fits : goal.returns-then-not-length_fits
unfolding looked_up entry_fits
returns-then-not-length_fits c = simp (c.refused.ensures, said c.length_fits.ensures c.if-not-length_fits.true)

pub entry_in-entry-requires : goal.entry_in-entry-requires
entry_in-entry-requires c =
    let live = c.args.self.live in
    entry_inside (sized_row (fits_sized _ _ live (fitting (goal.at.entry_in-entry-requires c).Else-not-length_fits)) (live_facts _ live).place) c.requires

pub entry_ok-requires : goal.entry_ok-requires
entry_ok-requires c = (lines_facts _ _ _ (live_facts _ c.args.self.live).lines).outputs_most

pub returns-then-not-entry_ok : goal.returns-then-not-entry_ok
unfolding looked_up
returns-then-not-entry_ok c =
    simp (c.refused-then-not-entry_ok.ensures, fits (goal.at.returns-then-not-entry_ok c).After-entry_ok false c.if-not-entry_ok.true)

pub returns : goal.returns
unfolding looked_up
returns c =
    let read = c.entry_in-entry.ensures in
    simp (fits (goal.at.returns c).After-entry_ok true c.if-not-entry_ok.false, c.moved.ensures, read.0, read.1)

-- `board::LiveBoard::deviates`: in mode 1 the inputs are no fewer than the outputs, so the proposal's place is a number. Assumes nothing.
use Rattle.std.proofs.Common.{arith}
use borrow.Author.Tests.{eq-eqb}
use Rattle.records.specs.Laws.Tests.{cases}
use Rattle.records.specs.Laws.Limits.{Lines, lines_facts}
use Rattle.game.specs.Meaning.Proposal.{proposal, differs, deviates}
use Rattle.board.specs.Laws.LiveFacts.{live_facts}
use Rattle.board.proofs.LiveBoard.deviates.Goals.{Start}
use Rattle.board.proofs.LiveBoard.deviates.Goals as goal

lines : (c : Start) → let b = c.args.self.board in Lines b.mode b.inputs b.outputs
lines c = lines_facts _ _ _ (live_facts _ c.args.self.live).lines

pub overflow_sub-self : goal.overflow_sub-self
overflow_sub-self c = (lines (goal.at.overflow_sub-self c).Start).shield c.if-self-eq1.true

pub pow2-requires : goal.pow2-requires
pow2-requires c = let h = lines (goal.at.pow2-requires c).Start in omega arith

pub returns-then-self-eq1 : goal.returns-then-self-eq1
unfolding deviates differs proposal
returns-then-self-eq1 c = simp (eq-eqb _ _ c.if-self-eq1.true, c.pow2.ensures)

pub returns : goal.returns
unfolding deviates differs proposal
returns c = search (cases, c.if-self-eq1.false)

-- `board::Board::step`: the tests in the definition's order. Assumes nothing.
use Rattle.std.proofs.Common.{arith, false, leb, ltb, true, ◌^◌, ◌≡◌}
use borrow.Author.Tests.{ltb-true}
use Rattle.records.specs.Laws.Tests.{cases, said}
use Rattle.records.specs.Meaning.Limits.{max_steps}
use Rattle.records.specs.Laws.Limits.{lines_facts}
use Rattle.board.specs.Meaning.Board.{live}
use Rattle.board.specs.Meaning.BoardStep.{step_on}
use Rattle.board.specs.Laws.LiveFacts.{live_facts}
use Rattle.board.proofs.Promises.{step_promise}
use Rattle.board.proofs.Board.step.Goals.{Else-not-is_live, Else-pow2-input, Else-self-ge-STEP_LIMIT, Then-pow2-input, Then-self-ge-STEP_LIMIT}
use Rattle.board.proofs.Board.step.Goals as goal

-- past each test: the board is live, has steps left, and the input is in range
alive : (c : Else-not-is_live) → live c.args.self ≡ true
alive c = said c.is_live.ensures c.if-not-is_live.false

room : (c : Else-self-ge-STEP_LIMIT) → leb max_steps c.args.self.steps ≡ false
room c = search cases

letter : (c : Else-pow2-input) → ltb c.args.input (2 ^ c.args.self.inputs) ≡ true
letter c = search (cases, ← c.pow2.ensures)

-- the tests that refuse
spent : (c : Then-self-ge-STEP_LIMIT) → leb max_steps c.args.self.steps ≡ true
spent c = search cases

stranger : (c : Then-pow2-input) → ltb c.args.input (2 ^ c.args.self.inputs) ≡ false
stranger c = search (cases, ← c.pow2.ensures)

pub returns-then-not-is_live : goal.returns-then-not-is_live
unfolding step_on
returns-then-not-is_live c =
    step_promise _ _ _ _ (simp (c.refused.ensures, said c.is_live.ensures c.if-not-is_live.true))

pub returns-then-self-ge-STEP_LIMIT : goal.returns-then-self-ge-STEP_LIMIT
unfolding step_on
returns-then-self-ge-STEP_LIMIT c = step_promise _ _ _ _ (simp (c.refused-then-self-ge-STEP_LIMIT.ensures, alive (goal.at.returns-then-self-ge-STEP_LIMIT c).Else-not-is_live, spent (goal.at.returns-then-self-ge-STEP_LIMIT c).Then-self-ge-STEP_LIMIT))

pub pow2-requires : goal.pow2-requires
pow2-requires c =
    let h = lines_facts _ _ _ (live_facts _ (alive (goal.at.pow2-requires c).Else-not-is_live)).lines in
    omega arith

pub returns-then-pow2-input : goal.returns-then-pow2-input
unfolding step_on
returns-then-pow2-input c =
    step_promise _ _ _ _ (simp (c.refused-then-pow2-input.ensures, alive (goal.at.returns-then-pow2-input c).Else-not-is_live, room (goal.at.returns-then-pow2-input c).Else-self-ge-STEP_LIMIT, stranger (goal.at.returns-then-pow2-input c).Then-pow2-input))

pub invariant_of-running : goal.invariant_of-running
invariant_of-running c = record { live = alive (goal.at.invariant_of-running c).Else-not-is_live }

pub look_up-requires : goal.look_up-requires
look_up-requires c = ltb-true _ _ (letter (goal.at.look_up-requires c).Else-pow2-input)

pub returns : goal.returns
unfolding step_on
returns c =
    step_promise _ _ _ _ (simp (alive (goal.at.returns c).Else-not-is_live, room (goal.at.returns c).Else-self-ge-STEP_LIMIT, letter (goal.at.returns c).Else-pow2-input) c.look_up.ensures)

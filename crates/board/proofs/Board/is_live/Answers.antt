-- `board::Board::is_live`: the tests in the definition's order. Assumes nothing.
use Rattle.std.proofs.Common.{◌∙◌}
use Rattle.records.specs.Laws.Tests.{said, both_ways}
use Rattle.board.specs.Meaning.Board.{live}
use Rattle.board.proofs.Board.is_live.Goals.{then-self, else-self}
use Rattle.board.proofs.Board.is_live.Goals as goal

pub returns-then-lines_ok : goal.returns-then-lines_ok
unfolding live
returns-then-lines_ok c =
    elim c.if-self.branch [
      | then-self w ↦ simp (w.if-self.true, said w.lines_ok.ensures (said w.value-is c.if-lines_ok.true)) c.counts_ok.ensures
      | else-self w ↦ both_ways (said w.value-is c.if-lines_ok.true) w.if-self.false
    ]

pub returns-else-lines_ok : goal.returns-else-lines_ok
unfolding live
returns-else-lines_ok c =
    elim c.if-self.branch [
      | then-self w ↦ c.if-lines_ok.false ∙ simp (w.if-self.true, said w.lines_ok.ensures (said w.value-is c.if-lines_ok.false))
      | else-self w ↦ c.if-lines_ok.false ∙ simp w.if-self.false
    ]

-- `board_bytes::layout::board_in`: field by field. Assumes nothing.
use Rattle.board_bytes.specs.Meaning.BoardBytes.{board_in}
use Rattle.board_bytes.proofs.layout.board_in.Goals as goal

pub returns : goal.returns
unfolding board_in
returns c = simp (c.u16_at.ensures, c.u16_at-2.ensures, c.u32_at.ensures, c.u32_at-2.ensures)

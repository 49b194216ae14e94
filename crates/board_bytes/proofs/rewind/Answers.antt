-- `board_bytes::rewind`: the call below, by bytes. Assumes nothing.
use Rattle.board_bytes.proofs.Handing.{rewinds}
use Rattle.board_bytes.proofs.rewind.Goals as goal

pub returns : goal.returns
returns c =
    rewinds _ _ _ _ _ c.board_in.ensures c.rewind-rewinding.ensures c.hand_back.ensures.number c.hand_back.ensures.bytes

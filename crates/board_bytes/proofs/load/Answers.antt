-- `board_bytes::load`: the call below, by bytes. Assumes nothing.
use Rattle.board_bytes.proofs.Handing.{loads}
use Rattle.board_bytes.proofs.load.Goals as goal

pub returns : goal.returns
returns c =
    loads _ _ _ _ _ _ c.board_in.ensures c.load-loading.ensures c.hand_back.ensures.number c.hand_back.ensures.bytes

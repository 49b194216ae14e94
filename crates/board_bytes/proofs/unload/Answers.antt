-- `board_bytes::unload`: the call below, by bytes. Assumes nothing.
use Rattle.board_bytes.proofs.Handing.{unloads}
use Rattle.board_bytes.proofs.unload.Goals as goal

pub returns : goal.returns
returns c =
    unloads _ _ _ _ _ c.board_in.ensures c.unload-unloading.ensures c.hand_back.ensures.number c.hand_back.ensures.bytes

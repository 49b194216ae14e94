-- `board_bytes::step`: the call below, by bytes. Assumes nothing.
use Rattle.std.proofs.Common.{refl}
use Rattle.board_bytes.proofs.Handing.{steps}
use Rattle.board_bytes.proofs.step.Goals as goal

pub returns : goal.returns
returns c =
    steps _ _ _ _ _ _ _ _ _ c.board_in.ensures c.step-stepping.ensures c.hand_back-number.ensures.number c.unwrap_or-output.ensures refl
    c.hand_back-number.ensures.bytes

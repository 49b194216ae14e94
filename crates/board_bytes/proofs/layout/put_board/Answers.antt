-- `board_bytes::layout::put_board`: the fields one after the other fill the bytes. Assumes nothing.
use Rattle.board_bytes.proofs.Fields.{fields_stored}
use Rattle.board_bytes.proofs.layout.put_board.Goals as goal

pub returns : goal.returns
returns c =
    let a = c.args in
    fields_stored a.board a.out.now c.told-out c.put_first.ensures c.put_u16.ensures
    c.put_u16-2.ensures c.put_u32.ensures c.put_u32-2.ensures

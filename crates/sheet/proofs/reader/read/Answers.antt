-- `sheet::reader::read`: the answer is the model's, whose promises are laws; a slice of u8 holds bytes. Assumes nothing.
use Rattle.std.proofs.Common.{arith}
use Rattle.sheet.specs.Laws.Reading.{reads_as}
use Rattle.sheet.proofs.reader.read.Goals as goal

pub returns : goal.returns
returns c = reads_as c.args.s.now _ (λ k. omega (arith, c.type_inv.s k)) c.read_in_turn.ensures

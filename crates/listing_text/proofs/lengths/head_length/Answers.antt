-- `listing_text::lengths::head_length`: a sum. Assumes nothing.
use Rattle.std.proofs.Common.{arith}
use Rattle.listing_text.specs.Laws.Lengths.{length-head}
use Rattle.listing_text.proofs.lengths.head_length.Goals as goal

pub returns : goal.returns
returns c =
    let a = c.args in
    omega (arith, length-head a.count a.inputs a.outputs a.horizon)

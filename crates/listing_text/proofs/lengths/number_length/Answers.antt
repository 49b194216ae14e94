-- `listing_text::lengths::number_length`: one more than the logarithm. Assumes nothing.
use Rattle.listing_text.specs.Laws.Digits.{digits_log}
use Rattle.listing_text.proofs.lengths.number_length.Goals as goal

pub returns : goal.returns
returns c = digits_log _ _ c.requires c.max.ensures c.ilog10.ensures.power_le c.ilog10.ensures.next_power_gt

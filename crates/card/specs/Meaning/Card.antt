-- What a card says of a state.
-- Assumes nothing.
use Rattle.std.proofs.Math.Option.{Option, none, some}
use Rattle.card.specs.declared.Averages.{Averages}
use Rattle.card.specs.declared.Prospect.{Prospect}
use Rattle.card.specs.declared.Prospect.TheVariants.{Lost, Worth}

-- the averages of a state, none if it is lost
abbrev pub averages_in : Prospect → Option Averages
averages_in Lost = none
averages_in (Worth a) = some a

-- the entry that says lost
abbrev pub lost_entry : Prospect
lost_entry = Lost

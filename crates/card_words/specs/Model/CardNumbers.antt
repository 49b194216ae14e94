-- What the code asks of a card: its averages are numbers, since a NaN has no bits of its own.
-- Assumes nothing.
use Rattle.std.specs.Prelude.{not, List, ℕ, ◌<◌, T, get_or}
use Rattle.std.specs.Float.Ieee.{is_nan}
use Rattle.records.specs.Meaning.Limits.{max_states}
use Rattle.card.specs.Meaning.Card.{lost_entry}
use Rattle.card.specs.declared.Prospect.{Prospect}
use Rattle.card.specs.declared.Prospect.TheVariants.{Lost, Worth}

-- of a state
abbrev pub Number : Prospect → Type 0
Number Lost = Unit
Number (Worth a) = T (not (is_nan a.best)) × T (not (is_nan a.least))

-- of every state
pub record AllNumbers (entries : List Prospect) : Type 0 where
  pub each : (s : ℕ) → s < max_states → Number (get_or entries s lost_entry)

-- The limit on product states enters no answer (document 02, N6): where a sheet keeps a smaller limit, what is right is what the calls
-- answer, and a forecast card of so many entries is the front of theirs.
-- Assumes nothing.
use Rattle.std.specs.Prelude.{◌≡◌, List, ℕ, ◌≤◌, ◌<◌, length, take}
use Rattle.std.proofs.Math.Option.{none}
use Rattle.records.specs.Meaning.Limits.{max_states}
use Rattle.sheet.specs.Meaning.Decoded.{Decoded}
use Rattle.product.specs.Meaning.States.{ProductStates}
use Rattle.product.specs.Model.ProductNumbering.{state_count}
use Rattle.solve.specs.Meaning.Allowed.{TooMany, IsSheet, Accepted}
use Rattle.supervisor.specs.Model.SupervisorOfSheet.{supervisor_table}
use Rattle.supervisor.specs.Promises.SupervisorMaker.{Means}
use Rattle.plan.specs.Model.GuardOfSheet.{guard_table_of, states_of}
use Rattle.guard.specs.Promises.GuardMaker.{Rows}
use Rattle.card.specs.Meaning.Card.{averages_in}
use Rattle.card.specs.declared.Card.{Card}
use Rattle.forecast.specs.Model.Forecast.{forecast_card}
use Rattle.forecast.specs.Promises.Forecast.{says_of, ForetellsWithin}
use Rattle.forced.specs.Model.ForcedOfSheet.{forced_of}
use Rattle.forced.specs.Promises.ForcedMaker.{ShowsPlay}

-- the sheet keeps a limit on product states
abbrev pub Keeps : ℕ → Decoded → Type 0
Keeps limit d = (states : List (List ℕ)) → ProductStates d states → length states ≤ limit

-- a card with its first entries alone
abbrev pub cut_card : ℕ → Card → Card
cut_card entries card = record { count = card.count; entries = take entries card.entries }

-- what is right of the sheet where `limit` is the most product states, is what the calls answer
pub record SameAnswers (limit : ℕ) (d : Decoded) : Type 0 where
  -- a table that is right has no more states than the limit and is the one that the call answers; and that one is right
  pub supervisor : (n : ℕ) (table : List ℕ) → Means d n table → (n ≤ limit) × (table ≡ supervisor_table d)
  pub supervisor_is : Means d (state_count d) (supervisor_table d)
  pub guard : (n : ℕ) (table : List ℕ) → Rows d d.horizon n table → (n ≤ limit) × (table ≡ guard_table_of d)
  pub guard_is : Rows d d.horizon (states_of d) (guard_table_of d)
  -- a card of `limit` entries that is right is the front of the one that the call answers, and that front is right; past it all are lost
  pub card : (c : Card) → length c.entries ≡ limit → ForetellsWithin limit d c → c ≡ cut_card limit (forecast_card d)
  pub card_size : length (cut_card limit (forecast_card d)).entries ≡ limit
  pub card_is : ForetellsWithin limit d (cut_card limit (forecast_card d))
  pub past : (k : ℕ) → limit ≤ k → k < max_states → averages_in (says_of (forecast_card d) k) ≡ none

-- and the same of how a break is forced
pub record SamePlay (limit : ℕ) (d : Decoded) : Type 0 where
  pub play : (n : ℕ) (bytes : List ℕ) → ShowsPlay d n bytes → (n ≤ limit) × (bytes ≡ forced_of d)
  pub play_is : ShowsPlay d (state_count d) (forced_of d)

-- this holds of every accepted sheet that keeps the limit, and of the play also where the sheet is not realizable
pub record SmallerLimit (limit : ℕ) : Type 0 where
  pub answers : (s : List ℕ) (d : Decoded) → Accepted s d → Keeps limit d → SameAnswers limit d
  pub plays : (s : List ℕ) (d : Decoded) → IsSheet s d → (TooMany d → ⊥) → Keeps limit d → SamePlay limit d

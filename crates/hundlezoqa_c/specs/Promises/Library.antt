-- What the makers and the listing promise to programs in other languages: an answer as the call below promises it, reported by number and
-- figures. The board's calls promise what crate `board_bytes` does.
-- Assumes nothing.
use Rattle.std.specs.Prelude.{◌≡◌, List, [], ◌∷◌, ℕ, get_or, take, Result}
use Rattle.guard_table.specs.Meaning.Loadable.{loadable}
use Rattle.listing_text.specs.Meaning.Listing.{listing_of}
use Rattle.card.specs.declared.Card.{Card}
use Rattle.card_words.specs.Meaning.CardWords.{card_words}
use Rattle.forced.specs.Meaning.Answer.{play_number, play_length, play_states}
use Rattle.forced.specs.Promises.ForcedMaker.{MakesForced}
use Rattle.forced.specs.declared.answer.Ground.{Ground}
use Rattle.solve.specs.declared.made.Made.{Made}
use Rattle.forecast.specs.Promises.Forecast.{MakesForecast}
use Rattle.forecast.specs.Model.Forecasting.{card_in}
use Rattle.sheet.specs.Meaning.Decoded.{Decoded}
use Rattle.sheet.specs.Meaning.Grounds.{verdict_number}
use Rattle.sheet.specs.declared.layout.Refusal.{Refusal}
use Rattle.solve.specs.Meaning.Allowed.{Accepted}
use Rattle.report.specs.Promises.Report.{listed_number, listed_length, Writes}
use Rattle.report.specs.declared.ListRefusal.{ListRefusal}
use Rattle.supervisor.specs.Promises.SupervisorMaker.{MakesSupervisor}
use Rattle.guard.specs.Promises.GuardMaker.{MakesGuard}
use Rattle.board_bytes.specs.Promises.ByteCalls.{Reports}
use Rattle.hundlezoqa_c.specs.Meaning.FaithfulBytes.{FaithfulBytes}

-- `before` and `after` are the result memory, `lent` the lengths of the work memory; then come the number and the figures
abbrev pub ReportsSupervisor : List ℕ → List ℕ → List ℕ → List ℕ → ℕ → List ℕ → Type 0
ReportsSupervisor s before lent after = Reports (λ made. MakesSupervisor s before lent made after)

pub record ReportsGuard (s before lent after : List ℕ) (r : ℕ) (reported : List ℕ) : Type 0 where
  pub reports : Reports (λ made. MakesGuard s before lent made after) r reported
  -- demand 3 of the bytes that were written, as many as the first figure says, on boards that are bytes
  pub faithful : r ≡ 0 → (d : Decoded) → Accepted s d → FaithfulBytes d d.horizon (take (get_or reported 0 0) after)

-- the forecast card of the sheet s, in words
pub record ReportsForecast (s lent : List ℕ) (r : ℕ) (written : List ℕ) : Type 0 where
  pub made : Result Card Refusal
  pub promised : MakesForecast s lent made
  pub number : r ≡ verdict_number made
  pub words : written ≡ card_words (card_in made)

-- how a break is forced from the states of the sheet s; `before` and `after` are the result memory, the figures its length and states
pub record ReportsForced (s before lent after : List ℕ) (r : ℕ) (reported : List ℕ) : Type 0 where
  pub forced : Result Made Ground
  pub promised : MakesForced s before lent forced after
  pub number : r ≡ play_number forced
  pub figures : reported ≡ play_length forced ∷ play_states forced ∷ []

-- the listing of the table t; `before` and `after` are the text memory, the one figure is the length of the text
pub record ReportsListing (t before after : List ℕ) (r : ℕ) (reported : List ℕ) : Type 0 where
  pub listed : Result ℕ ListRefusal
  pub promised : Writes (loadable t) (listing_of t) before listed after
  pub number : r ≡ listed_number listed
  pub figures : reported ≡ listed_length listed ∷ []

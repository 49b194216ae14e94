-- What a maker answers: document 01's number, 0 for none, and its figures, 0 on a refusal.
-- Assumes nothing.
use Rattle.std.specs.Prelude.{ℕ, Result, Ok, Err}
use Rattle.sheet.specs.Meaning.Grounds.{verdict_number}
use Rattle.sheet.specs.declared.layout.Refusal.{Refusal}
use Rattle.solve.specs.declared.made.Made.{Made}

-- ---- an answer: document 01's number, 0 for none, and its figures, 0 on a refusal

abbrev pub made_number : Result Made Refusal → ℕ
made_number r = verdict_number r

-- by whatever grounds it may be refused
abbrev pub made_length : {E : Type 0} → Result Made E → ℕ
made_length (Ok made) = made.length
made_length (Err cause) = 0

abbrev pub made_states : {E : Type 0} → Result Made E → ℕ
made_states (Ok made) = made.states
made_states (Err cause) = 0

-- What the maker of plays answers: document 01's number, 0 for none, with document 02's 23, and its figures, 0 on a refusal.
-- Assumes nothing.
use Rattle.std.specs.Prelude.{ℕ, Result, Ok, Err}
use Rattle.records.specs.Meaning.Answers.{number_in}
use Rattle.sheet.specs.Meaning.Grounds.{ground_number}
use Rattle.solve.specs.declared.made.Made.{Made}
use Rattle.forced.specs.declared.answer.Ground.{Ground}
use Rattle.forced.specs.declared.answer.Ground.TheVariants.{Realizable, Sheet}

abbrev pub stop_number : Ground → ℕ
stop_number Realizable = 23
stop_number (Sheet cause) = ground_number cause

abbrev pub play_number : Result Made Ground → ℕ
play_number r = number_in stop_number r

abbrev pub play_length : Result Made Ground → ℕ
play_length (Ok made) = made.length
play_length (Err cause) = 0

abbrev pub play_states : Result Made Ground → ℕ
play_states (Ok made) = made.states
play_states (Err cause) = 0

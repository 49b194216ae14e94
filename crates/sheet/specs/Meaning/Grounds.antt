-- Document 01's numbers of the grounds on which a maker refuses.
-- Assumes nothing.
use Rattle.std.specs.Prelude.{ℕ, Result}
use Rattle.records.specs.Meaning.Answers.{number_in}
use Rattle.sheet.specs.declared.layout.Refusal.{Refusal}
use Rattle.sheet.specs.declared.layout.Refusal.TheVariants.{Truncated, Misplaced, BadHead, BadMonitor, SeventhMonitor, LongHorizon, TooManyStates, Unrealizable, ShortResult, ShortWork}

-- document 01's numbers of the grounds
abbrev pub ground_number : Refusal → ℕ
ground_number Truncated = 1
ground_number Misplaced = 2
ground_number BadHead = 3
ground_number BadMonitor = 4
ground_number SeventhMonitor = 5
ground_number LongHorizon = 6
ground_number TooManyStates = 7
ground_number Unrealizable = 8
ground_number ShortResult = 9
ground_number ShortWork = 10

-- and of an answer that one of them may refuse, 0 for none
abbrev pub verdict_number : {T : Type 0} → Result T Refusal → ℕ
verdict_number r = number_in ground_number r

-- What the notebook's rows speak of: definitions that the makers' and the board's contracts cite, at a sheet's bytes.
-- Assumes nothing.
use Rattle.std.specs.Prelude.{true, cond, List, [], ◌∷◌, ℕ, ◌+◌, ◌*◌, ◌^◌, take}
use Rattle.records.specs.Meaning.Lists.{tab}
use Rattle.guard_table.specs.Model.Inside.{table_most}
use Rattle.sheet.specs.Meaning.Decoded.{Decoded, input_lines}
use Rattle.product.specs.Meaning.Step.{outputs_of, limit_letter, moved, broken, advance, reward, first_tuple}
use Rattle.product.specs.Laws.Tuples.{shown}
use Rattle.product.specs.Model.ProductNumbering.{state_count}
use Rattle.board.specs.Meaning.Board.{empty_board}
use Rattle.board.specs.Meaning.Load.{load_on}
use Rattle.board.specs.Meaning.BoardStep.{step_on, step_output}
use Rattle.board.specs.declared.Board.{Board}
use Rattle.supervisor.specs.Model.SupervisorOfSheet.{supervisor_table}
use Rattle.solve.specs.Model.Making.{sheet_of, making_number, ordered_number}
use Rattle.solve.specs.Model.Opening.{opening_number}
use Rattle.forced.specs.Model.ForcedOfSheet.{forced_of, forced_size, held_number}
use Rattle.card_words.specs.Meaning.CardWords.{card_words}
use Rattle.forecast.specs.Model.Forecast.{bests_of, leasts_of, forecast_card}
use Rattle.plan.specs.Model.GuardOfSheet.{guard_table_of}
use Rattle.plan.specs.Model.Playing.{best_at}

-- ---- the makers

-- result memory for the longest guard table; no supervisor table is longer
abbrev pub room : ℕ
room = table_most

-- their numbers, with enough work memory
abbrev pub supervisor_number : List ℕ → ℕ
supervisor_number sheet = making_number supervisor_table true sheet room

abbrev pub guard_answer : List ℕ → ℕ
guard_answer sheet = making_number guard_table_of true sheet room

-- their tables
abbrev pub supervisor : List ℕ → List ℕ
supervisor sheet = supervisor_table (sheet_of sheet)

abbrev pub guard : List ℕ → List ℕ
guard sheet = guard_table_of (sheet_of sheet)

-- ---- the forecast

-- its number, with enough work memory
abbrev pub forecast_number : List ℕ → ℕ
forecast_number sheet = opening_number true sheet

-- the whole sums of the product states, at best and at least
abbrev pub best_sums : List ℕ → List ℕ
best_sums sheet = bests_of (sheet_of sheet)

abbrev pub least_sums : List ℕ → List ℕ
least_sums sheet = leasts_of (sheet_of sheet)

-- the card's first words: the count, then for n states the bits of the best and of the least average
unfoldable pub card_front : ℕ → List ℕ → List ℕ
card_front n sheet = take (1 + 2 * n) (card_words (forecast_card (sheet_of sheet)))

-- ---- how a break is forced

-- its number, with enough work memory
abbrev pub forced_number : List ℕ → ℕ
forced_number sheet = ordered_number held_number forced_size true sheet room

-- its bytes: for each product state the steps, low byte first, and the input
abbrev pub play : List ℕ → List ℕ
play sheet = forced_of (sheet_of sheet)

-- ---- a run of the product

-- the tuple that a run of inputs and outputs leads to, each step by this rule
unfoldable pub tuple_by : (List ℕ → ℕ → ℕ → List ℕ) → List ℕ → List ℕ → List ℕ → List ℕ
tuple_by rule t [] outputs = t
tuple_by rule t (i ∷ inputs) [] = t
tuple_by rule t (i ∷ inputs) (o ∷ outputs) = tuple_by rule (rule t i o) inputs outputs

-- by document 02's rule (N5), and as it was before: the copies move on their own for the whole run
abbrev pub tuple_after : List ℕ → List ℕ → List ℕ → List ℕ
tuple_after sheet = tuple_by (advance (sheet_of sheet)) (first_tuple (sheet_of sheet))

abbrev pub former_after : List ℕ → List ℕ → List ℕ → List ℕ
former_after sheet = tuple_by (moved (sheet_of sheet)) (first_tuple (sheet_of sheet))

-- as document 01 writes a tuple: the monitors, then the copies
abbrev pub tuple : List ℕ → List ℕ → List ℕ
tuple sheet t = shown (sheet_of sheet) t

-- the letter that limits read at a tuple, and whether a step from there is whole (1) or broken (0)
abbrev pub letter : List ℕ → List ℕ → ℕ → ℕ → ℕ
letter sheet t i o = limit_letter (sheet_of sheet) t i o

abbrev pub whole : List ℕ → List ℕ → ℕ → ℕ → ℕ
whole sheet t i o = cond (broken (sheet_of sheet) t i o) 0 1

-- ---- what the tables are made from

abbrev pub states : List ℕ → ℕ
states sheet = state_count (sheet_of sheet)

-- the scores of the outputs at a tuple and an input, by document 01: reward × 2^(inputs × H) + Best(s', H). `best_at` is Best, as the
-- forecast promises (`best_sums`)
unfoldable pub scores_at : Decoded → List ℕ → ℕ → List ℕ
scores_at d t i = tab (outputs_of d) (λ o. reward d t i o * 2 ^ (input_lines d * d.horizon) + best_at d d.horizon (advance d t i o))

-- at the start
abbrev pub scores : List ℕ → ℕ → List ℕ
scores sheet i = scores_at (sheet_of sheet) (first_tuple (sheet_of sheet)) i

-- the literals that the reader finds in the head
abbrev pub literals : List ℕ → List ℕ
literals sheet = (sheet_of sheet).literals

-- ---- a run of the board

-- a step for each of these inputs: the outputs, and the board at last
unfoldable pub outputs_from : Board → List ℕ → List ℕ → List ℕ
outputs_from b table [] = []
outputs_from b table (i ∷ inputs) = step_output (step_on b table i).answer ∷ outputs_from (step_on b table i).board table inputs

unfoldable pub board_from : Board → List ℕ → List ℕ → Board
board_from b table [] = b
board_from b table (i ∷ inputs) = board_from (step_on b table i).board table inputs

-- the same once the empty board has loaded the table
unfoldable pub outputs : List ℕ → List ℕ → List ℕ
outputs table inputs = outputs_from (load_on empty_board table).board table inputs

unfoldable pub deviations_shown : List ℕ → List ℕ → ℕ
deviations_shown table inputs = (board_from (load_on empty_board table).board table inputs).deviations

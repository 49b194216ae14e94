-- The answer that is due, by the model: its bytes, from the table of steps and the rounds over it, and its number.
-- Assumes nothing.
use Rattle.std.specs.Prelude.{◌≡◌, Bool, cond, List, ℕ, eqb, length, Result}
use Rattle.std.proofs.lemmas.List.Edits.{sets}
use Rattle.records.specs.Meaning.Lists.{cat}
use Rattle.sheet.specs.Meaning.Decoded.{Decoded}
use Rattle.product.specs.Meaning.Step.{inputs_of, outputs_of}
use Rattle.product.specs.Model.ProductNumbering.{state_count}
use Rattle.rounds.specs.Model.TableRounds.{is_in}
use Rattle.forced_rows.specs.Meaning.ForcedBytes.{forced_length}
use Rattle.forced_rows.specs.Model.ForcedRows.{forced_row}
use Rattle.solve.specs.Model.Steps.{cells_of, dropped_of}
use Rattle.solve.specs.Model.Making.{sheet_of, ordered_number}
use Rattle.forced.specs.Meaning.Answer.{play_number, play_length, play_states}
use Rattle.solve.specs.declared.made.Made.{Made}
use Rattle.forced.specs.declared.answer.Ground.{Ground}

-- the bytes of a sheet's answer
unfoldable pub forced_of : Decoded → List ℕ
forced_of d = cat (state_count d) (forced_row (cells_of d) (dropped_of d) (inputs_of d) (outputs_of d))

-- and how many they are
unfoldable pub forced_size : Decoded → ℕ
forced_size d = forced_length (outputs_of d) (state_count d)

-- 23: the start is kept
unfoldable pub held_number : Decoded → ℕ
held_number d = cond (is_in (dropped_of d) 0) 23 0

-- answer and result by the model: `work` says that the work memory is long enough, `before` and `after` are the result memory
pub record Plays (work : Bool) (s before : List ℕ) (r : Result Made Ground) (after : List ℕ) : Type 0 where
  pub number : play_number r ≡ ordered_number held_number forced_size work s (length before)
  pub size : play_length r ≡ cond (eqb (play_number r) 0) (forced_size (sheet_of s)) 0
  pub states : play_states r ≡ cond (eqb (play_number r) 0) (state_count (sheet_of s)) 0
  -- the answer's bytes, then the old rest; on a refusal the old bytes
  pub bytes : after ≡ cond (eqb (play_number r) 0) (sets before 0 (forced_of (sheet_of s))) before

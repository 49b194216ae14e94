-- How a break is forced, from a table of steps and the rounds over it: the round that dropped a state is the number of steps.
-- Assumes nothing.
use Rattle.std.specs.Prelude.{Bool, cond, not, List, ℕ, eqb, ltb, length, get_or}
use Rattle.records.specs.Model.Bounded.{least}
use Rattle.records.specs.Model.Cells.{is_broken, broken_monitor}
use Rattle.records.specs.Model.Lists.{put}
use Rattle.rounds.specs.Model.TableRounds.{cell_at, is_in, answered}
use Rattle.forced_rows.specs.Meaning.ForcedBytes.{forced_bytes, no_breaker}

-- the entries before round r: the states that it and later rounds dropped are in
unfoldable pub before_round : ℕ → List ℕ → List ℕ
before_round r dropped = put dropped (length dropped) (λ k. cond (ltb (get_or dropped k 0) r) (get_or dropped k 0) 0)

-- input i of state k has no unbroken step to a state that was in before the round that dropped k
unfoldable pub forces_at : List ℕ → List ℕ → ℕ → ℕ → ℕ → ℕ → Bool
forces_at cells dropped ins outs k i = not (answered cells (before_round (get_or dropped k 0) dropped) ins outs k i)

-- the lowest such input; 0 for a kept state
unfoldable pub forcing_input : List ℕ → List ℕ → ℕ → ℕ → ℕ → ℕ
forcing_input cells dropped ins outs k = cond (is_in dropped k) 0 (least ins (forces_at cells dropped ins outs k))

-- the monitor that breaks the step of a cell
unfoldable pub breaker_in : ℕ → ℕ
breaker_in cell = cond (is_broken cell) (broken_monitor cell) no_breaker

-- the monitor that output o breaks at input i of state k, if the state is one step from its end
unfoldable pub breaker_at : List ℕ → List ℕ → ℕ → ℕ → ℕ → ℕ → ℕ → ℕ
breaker_at cells dropped ins outs k i o =
    cond (eqb (get_or dropped k 0) 1) (breaker_in (get_or cells (cell_at ins outs k i o) 0)) no_breaker

-- the bytes of state k
unfoldable pub forced_row : List ℕ → List ℕ → ℕ → ℕ → ℕ → List ℕ
forced_row cells dropped ins outs k =
    let i = forcing_input cells dropped ins outs k in
    forced_bytes outs (get_or dropped k 0) i (breaker_at cells dropped ins outs k i)

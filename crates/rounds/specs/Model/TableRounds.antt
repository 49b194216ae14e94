-- The rounds that drop lost states (document 01), over a table of steps.
-- The table has a row of inputs × outputs cells for each state; the cell of input i and output o stands at i + inputs × o
-- and holds the number of the state after the step, or a mark where the step is broken.
-- A state's entry in a list of rounds is the round, counted from 1, that dropped it, and 0 while it is in.
-- Assumes nothing.
use Rattle.std.specs.Prelude.{◌≡◌, Bool, false, cond, not, ◌&&◌, List, ℕ, zero, suc, ◌+◌, ◌*◌, ◌^◌, ◌≤◌, ◌<◌, eqb, length, get_or}
use Rattle.records.specs.Meaning.Bounded.{all, any, sum, count}
use Rattle.records.specs.Model.Lists.{put}
use Rattle.records.specs.Model.Cells.{is_broken}

-- the table has n rows, and every unbroken step leads to one of the n states
pub record Steps (cells : List ℕ) (n ins outs : ℕ) : Type 0 where
  pub rows : n * (ins * outs) ≤ length cells
  pub inside : (at : ℕ) → at < n * (ins * outs) → is_broken (get_or cells at 0) ≡ false → get_or cells at 0 < n

-- the cell of a state, an input and an output
unfoldable pub cell_at : ℕ → ℕ → ℕ → ℕ → ℕ → ℕ
cell_at ins outs k i o = k * (ins * outs) + (i + ins * o)

-- a state is in: no round has dropped it
unfoldable pub is_in : List ℕ → ℕ → Bool
is_in dropped k = eqb (get_or dropped k 0) 0

-- the cell is an unbroken step to a state that is in
unfoldable pub leads_in : List ℕ → List ℕ → ℕ → Bool
leads_in cells dropped at = not (is_broken (get_or cells at 0)) && is_in dropped (get_or cells at 0)

-- input i of state k has such a step
unfoldable pub answered : List ℕ → List ℕ → ℕ → ℕ → ℕ → ℕ → Bool
answered cells dropped ins outs k i = any outs (λ o. leads_in cells dropped (cell_at ins outs k i o))

-- every input of state k has one
unfoldable pub stays : List ℕ → List ℕ → ℕ → ℕ → ℕ → Bool
stays cells dropped ins outs k = all ins (answered cells dropped ins outs k)

-- round r drops each state that is in and has an input with no such step
unfoldable pub entry_after : List ℕ → ℕ → ℕ → ℕ → List ℕ → ℕ → ℕ
entry_after cells ins outs r dropped k =
    cond (is_in dropped k && not (stays cells dropped ins outs k)) r (get_or dropped k 0)

unfoldable pub round : List ℕ → ℕ → ℕ → ℕ → ℕ → List ℕ → List ℕ
round cells n ins outs r dropped = put dropped n (entry_after cells ins outs r dropped)

-- the entries after r rounds: all n states are in at first
unfoldable pub rounds : List ℕ → ℕ → ℕ → ℕ → List ℕ → ℕ → List ℕ
rounds cells n ins outs memory zero = put memory n (λ k. 0)
rounds cells n ins outs memory (suc r) = round cells n ins outs (suc r) (rounds cells n ins outs memory r)

-- each round but the last drops a state, so n rounds are enough
unfoldable pub settled : List ℕ → ℕ → ℕ → ℕ → List ℕ → List ℕ
settled cells n ins outs memory = rounds cells n ins outs memory n

-- how many states are in
unfoldable pub kept_count : ℕ → List ℕ → ℕ
kept_count n dropped = count n (is_in dropped)

-- the outputs allowed in state k at input i, bit o for output o; none in a state that is not kept
unfoldable pub mask_of : List ℕ → List ℕ → ℕ → ℕ → ℕ → ℕ → ℕ
mask_of cells dropped ins outs k i =
    sum outs (λ o. cond (is_in dropped k && leads_in cells dropped (cell_at ins outs k i o)) (2 ^ o) 0)

-- what settling promises: the entries, and the number of states that are kept
pub record Settled (cells : List ℕ) (n ins outs : ℕ) (memory dropped : List ℕ) (kept : ℕ) : Type 0 where
  pub entries : dropped ≡ settled cells n ins outs memory
  pub counted : kept ≡ kept_count n dropped

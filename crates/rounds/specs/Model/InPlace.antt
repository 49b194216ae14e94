-- A round made in place: while it is under way, a state that it has dropped still counts as in.
-- Assumes nothing.
use Rattle.std.specs.Prelude.{◌≡◌, Bool, cond, not, ◌&&◌, List, ℕ, ◌-◌, eqb, length, get_or}
use Rattle.records.specs.Model.Lists.{put}
use Rattle.rounds.specs.Model.TableRounds.{is_in, stays, round, kept_count}

-- the entries at the start of round r: the states that it has dropped so far are in
unfoldable pub at_start : ℕ → List ℕ → List ℕ
at_start r dropped = put dropped (length dropped) (λ k. cond (eqb (get_or dropped k 0) r) 0 (get_or dropped k 0))

-- round r, under way, drops a state: it is in, and has an input with no step to a state that was in at the start
unfoldable pub drops : List ℕ → ℕ → ℕ → ℕ → List ℕ → ℕ → Bool
drops cells ins outs r dropped k = is_in dropped k && not (stays cells (at_start r dropped) ins outs k)

-- what a round promises: the entries, and how many states it dropped
pub record Rounded (cells : List ℕ) (n ins outs r : ℕ) (before after : List ℕ) (lost : ℕ) : Type 0 where
  pub entries : after ≡ round cells n ins outs r before
  pub counted : lost ≡ kept_count n before - kept_count n after

-- The game over the numbers of a table of steps: its rounds are those of the table.
-- Assumes nothing.
use Rattle.std.specs.Prelude.{◌≡◌, Bool, not, ◌&&◌, length, get_or}
use Rattle.std.proofs.Math.Path.{sym, ap}
use Rattle.std.proofs.Common.{◌∙◌, arith}
use mathlib.Core.List.{List}
use Prim.Native.Nat.{ℕ, zero, suc, ◌≤◌, ◌<◌}
use Rattle.std.proofs.Math.Dec.{eqb}
use Rattle.records.specs.Laws.Tests.{by_test}
use Rattle.records.specs.Laws.Bounded.{all_cong, any_cong}
use Rattle.records.specs.Laws.Lists.{get_d_put-front}
use Rattle.records.specs.Model.Cells.{is_broken}
use Rattle.rounds.specs.Model.TableRounds.{Steps, cell_at, is_in, leads_in, answered, stays, entry_after, rounds}
use Rattle.rounds.specs.Laws.CellPlaces.{cell_in}
use Rattle.rounds.specs.Laws.TableRounds.{round-at, length-rounds}
use Rattle.game.specs.Model.Rounds.{keeps, kept_after, dropped_by}
use Rattle.game.specs.Laws.Rounds.{kept_dropped}

-- where a step leads, and whether it is unbroken
unfoldable pub goes : List ℕ → ℕ → ℕ → ℕ → ℕ → ℕ → ℕ
goes cells ins outs k i o = get_or cells (cell_at ins outs k i o) 0

unfoldable pub passes : List ℕ → ℕ → ℕ → ℕ → ℕ → ℕ → Bool
passes cells ins outs k i o = not (is_broken (goes cells ins outs k i o))

module _ {cells : List ℕ} {n ins outs : ℕ} (table : Steps cells n ins outs) where
  -- where the kept numbers are those that are in, a step leads in when it passes and ends in a kept one
  module _ (dropped : List ℕ) (kept : ℕ → Bool) (same : (q : ℕ) → q < n → is_in dropped q ≡ kept q) where
    pub leads_game : (k i o : ℕ) → k < n → i < ins → o < outs
        → leads_in cells dropped (cell_at ins outs k i o)
        ≡ passes cells ins outs k i o && kept (goes cells ins outs k i o)
    unfolding leads_in goes passes
    leads_game k i o hk hi ho =
        by_test (is_broken (get_or cells (cell_at ins outs k i o) 0)) (λ y. rw y)
        (λ y. rw y (same _ (table.inside _ (cell_in table hk hi ho) y)))

    -- and a state stays when the game keeps it
    pub stays-game : (k : ℕ) → k < n
        → stays cells dropped ins outs k ≡ keeps ℕ ins outs (goes cells ins outs) (passes cells ins outs) kept k
    unfolding stays answered keeps
    stays-game k h = all_cong ins _ _ (λ i hi. any_cong outs _ _ (λ o ho. leads_game k i o h hi ho))

  module _ (memory : List ℕ) (room : n ≤ length memory) where
    -- an entry is the round of the game that dropped the number
    pub rounds-game : (r k : ℕ) → k < n
        → get_or (rounds cells n ins outs memory r) k 0
        ≡ dropped_by ℕ ins outs (goes cells ins outs) (passes cells ins outs) r k
    unfolding rounds dropped_by entry_after is_in
    rounds-game zero k h = get_d_put-front memory n _ k 0 h (omega arith)
    rounds-game (suc r) k h =
        let d : List ℕ = rounds cells n ins outs memory r in
        let before : (q : ℕ) → q < n → is_in d q
        ≡ kept_after ℕ ins outs (goes cells ins outs) (passes cells ins outs) r q = λ q u.
        ap (λ (x : ℕ). eqb x 0) (rounds-game r q u)
        ∙ sym (kept_dropped ℕ ins outs (goes cells ins outs) (passes cells ins outs) r q) in
        round-at cells n ins outs (suc r) d (rw (length-rounds cells n ins outs memory r) room) k h
        ∙ rw (rounds-game r k h, stays-game d _ before k h)

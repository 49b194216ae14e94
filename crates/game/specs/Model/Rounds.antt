-- The rounds that drop the lost states of the safety game.
-- Assumes nothing.
use Rattle.std.specs.Prelude.{◌≡◌, Bool, true, not, cond, ◌&&◌, ℕ, zero, suc, eqb}
use Rattle.records.specs.Meaning.Bounded.{all, any, count}

module _ (S : Type 0) (I O : ℕ) (step : S → ℕ → ℕ → S) (ok : S → ℕ → ℕ → Bool) where
  -- ---- definitions

  -- each input has an output whose step is unbroken and ends in a kept state
  unfoldable pub keeps : (S → Bool) → S → Bool
  keeps kept s = all I (λ i. any O (λ o. ok s i o && kept (step s i o)))

  -- is s kept after r rounds? All states are kept at first; a round keeps a kept state if `keeps` holds
  unfoldable pub kept_after : ℕ → S → Bool
  kept_after zero s = true
  kept_after (suc r) s = kept_after r s && keeps (kept_after r) s

  -- the round, counted from 1, among the first r that dropped s; 0 if none did
  unfoldable pub dropped_by : ℕ → S → ℕ
  dropped_by zero s = 0
  dropped_by (suc r) s = cond (eqb (dropped_by r s) 0 && not (keeps (kept_after r) s)) (suc r) (dropped_by r s)

  -- the test of an output after r rounds: its step is unbroken and ends in a kept state
  unfoldable pub may : ℕ → S → ℕ → ℕ → Bool
  may r s i o = ok s i o && kept_after r (step s i o)

  -- round r + 1 drops no state of In
  abbrev pub Quiet : (S → Type 0) → ℕ → Type 0
  Quiet In r = (s : S) → In s → kept_after r s ≡ true → kept_after (suc r) s ≡ true

  -- a state of In that is kept after r rounds
  pub record Good (In : S → Type 0) (r : ℕ) (s : S) : Type 0 where
    pub inside : In s
    pub kept : kept_after r s ≡ true

  -- how many of the states name 0, .., name (N - 1) are kept after r rounds
  abbrev pub kept_count : ℕ → (ℕ → S) → ℕ → ℕ
  kept_count N name r = count N (λ k. kept_after r (name k))

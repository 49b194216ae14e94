-- Value iteration over a horizon: the most that can be earned, the score of an output, and the output that is chosen.
-- Assumes nothing.
use Rattle.std.specs.Prelude.{Bool, ℕ, zero, suc, ◌+◌, ◌*◌, ◌^◌}
use Rattle.records.specs.Meaning.Bounded.{sum}
use Rattle.records.specs.Model.Bounded.{top}
use Rattle.game.specs.Model.Choice.{choose}

module _ (S : Type 0) (I O : ℕ) (step : S → ℕ → ℕ → S) (may : S → ℕ → ℕ → Bool) (reward : S → ℕ → ℕ → ℕ) where
  -- document 01's Best(s, p): the most that can be earned from s over p inputs, added over all words of p inputs
  unfoldable pub value : ℕ → S → ℕ
  value zero s = 0
  value (suc p) s = sum I (λ i. top O (may s i) (λ o. reward s i o * I ^ p + value p (step s i o)))

  -- the score of the output o at the input i with H inputs to come
  unfoldable pub score : ℕ → S → ℕ → ℕ → ℕ
  score H s i o = reward s i o * I ^ H + value H (step s i o)

  -- the output with the largest score, ties by rank
  unfoldable pub choice : (ℕ → ℕ) → ℕ → S → ℕ → ℕ
  choice rank H s i = choose O (may s i) (score H s i) rank

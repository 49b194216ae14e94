-- Ways of answering a number of inputs, and the most and the least that they earn (document 02, the forecast card).
-- A way is a function of the inputs so far. `Ok` says which steps it may take, `reward` what a step earns.
-- Assumes nothing.
use Rattle.std.specs.Prelude.{◌≡◌, List, ℕ, suc, ◌+◌, ◌*◌, ◌^◌, ◌≤◌, ◌<◌}
use Rattle.records.specs.Meaning.Bounded.{sum}
use Rattle.game.specs.Meaning.Words.{Word, words, total}
use Rattle.game.specs.Meaning.Strategy.{Along}
use Rattle.game.specs.Meaning.Plans.{rewards}

-- m is the f of some o of P, and that of each o of P stands to it as R says
pub record Extremal (R : ℕ → ℕ → Type 0) (P : ℕ → Type 0) (f : ℕ → ℕ) (m : ℕ) : Type 0 where
  pub at : ℕ
  pub among : P at
  pub reached : f at ≡ m
  pub bound : (o : ℕ) → P o → R (f o) m

-- none is larger: m is the largest; none is smaller: the smallest
abbrev pub AtMost : ℕ → ℕ → Type 0
AtMost a m = a ≤ m

abbrev pub AtLeast : ℕ → ℕ → Type 0
AtLeast a m = m ≤ a

module _ (S : Type 0) (I O : ℕ) (step : S → ℕ → ℕ → S) (Ok : S → ℕ → ℕ → Type 0) (reward : S → ℕ → ℕ → ℕ) where
  -- along every word of H inputs from s each step of f is Ok
  abbrev pub Way : ℕ → S → (List ℕ → ℕ) → Type 0
  Way H s f = (w : List ℕ) → Word I H w → Along S O step Ok f s w

  -- what it earns: the rewards of its H steps, added over all words of H inputs
  abbrev pub way_earns : ℕ → S → (List ℕ → ℕ) → ℕ
  way_earns H s f = total (rewards S I O step Ok reward f s) (words I H)

  -- some way earns m, and what each way earns stands to it as R says: no way earns more, or none earns less
  pub record Earned (R : ℕ → ℕ → Type 0) (H : ℕ) (s : S) (m : ℕ) : Type 0 where
    pub way : List ℕ → ℕ
    pub taken : Way H s way
    pub reached : way_earns H s way ≡ m
    pub bound : (f : List ℕ → ℕ) → Way H s f → R (way_earns H s f) m

  -- document 01's recursion, of a function v in the states of In: nothing over no inputs; over one more, the sum over
  -- inputs of the largest (or smallest) reward × I^p + v after the step, over the outputs that are Ok
  pub record Recursion (R : ℕ → ℕ → Type 0) (In : S → Type 0) (v : ℕ → S → ℕ) : Type 0 where
    pub none : (s : S) → In s → v 0 s ≡ 0
    pub more : (p : ℕ) (s : S) → In s
        → (at : ℕ → ℕ) × (v (suc p) s ≡ sum I at)
        × ((i : ℕ) → i < I → Extremal R (λ o. (o < O) × Ok s i o) (λ o. reward s i o * I ^ p + v p (step s i o)) (at i))

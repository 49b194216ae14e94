-- Plans over a horizon, what they earn, best plans and their first moves (document 01, the run book).
-- `Ok` says which steps a plan may take, `reward` what a step earns, and `Higher o q` that o stands above q in the
-- output order.
-- Assumes nothing.
use Rattle.std.specs.Prelude.{◌≡◌, List, [], ◌∷◌, ℕ, ◌+◌, ◌≤◌}
use Rattle.game.specs.Meaning.Words.{Word, words, total}
use Rattle.game.specs.Meaning.Strategy.{Along, first, after}

module _ (S : Type 0) (I O : ℕ) (step : S → ℕ → ℕ → S) (Ok : S → ℕ → ℕ → Type 0) (reward : S → ℕ → ℕ → ℕ) where
  -- the rewards of the steps that a strategy takes along a word from s
  abbrev pub rewards : (List ℕ → ℕ) → S → List ℕ → ℕ
  rewards f s [] = 0
  rewards f s (i ∷ w) = reward s i (first i f) + rewards (after i f) (step s i (first i f)) w

  -- f is a plan for the state s and the present input i: along i and any H further inputs each of its steps is Ok
  abbrev pub Plan : ℕ → S → ℕ → (List ℕ → ℕ) → Type 0
  Plan H s i f = (w : List ℕ) → Word I H w → Along S O step Ok f s (i ∷ w)

  -- what it earns: the rewards of its H + 1 steps, added over all words of H further inputs
  abbrev pub earns : ℕ → S → ℕ → (List ℕ → ℕ) → ℕ
  earns H s i f = total (λ (w : List ℕ). rewards f s (i ∷ w)) (words I H)

  -- a plan that no plan outdoes
  pub record BestPlan (H : ℕ) (s : S) (i : ℕ) (f : List ℕ → ℕ) : Type 0 where
    pub plan : Plan H s i f
    pub most : (g : List ℕ → ℕ) → Plan H s i g → earns H s i g ≤ earns H s i f

  -- o is the first move of a best plan
  abbrev pub FirstMove : ℕ → S → ℕ → ℕ → Type 0
  FirstMove H s i o = (f : List ℕ → ℕ) × BestPlan H s i f × (first i f ≡ o)

  -- o is, of the first moves of best plans, the highest in the output order
  pub record Move (Higher : ℕ → ℕ → Type 0) (H : ℕ) (s : S) (i o : ℕ) : Type 0 where
    pub best : FirstMove H s i o
    pub highest : (q : ℕ) → FirstMove H s i q → Higher q o → ⊥

-- Strategies asked at the whole string of inputs so far. `Along` and `rewards` hand each later step what is left of a strategy;
-- here the strategy itself is asked, at the inputs from the first to the present one, and the two say the same.
-- Assumes nothing.
use Rattle.std.specs.Prelude.{◌≡◌, refl, ◌↔◌, List, [], ◌∷◌, ◌++◌, ℕ, ◌+◌, ◌<◌}
use Rattle.std.proofs.Common.{ap, subst, sym, ◌∙◌, append_assoc}
use Rattle.std.proofs.Math.Path.{fun_ext}
use Rattle.game.specs.Meaning.Words.{Word, words, total}
use Rattle.game.specs.Laws.Words.{total_cong}
use Rattle.game.specs.Meaning.Strategy.{Along, after}
use Rattle.game.specs.Meaning.Plans.{rewards, Plan, earns}

-- the strategy after the inputs `past`
abbrev pub beyond : List ℕ → (List ℕ → ℕ) → List ℕ → ℕ
beyond past f h = f (past ++ h)

-- the strategy after one more input
beyond_more : (past : List ℕ) (f : List ℕ → ℕ) (i : ℕ) → beyond (past ++ (i ∷ [])) f ≡ after i (beyond past f)
beyond_more past f i = fun_ext (λ h. ap f (append_assoc past (i ∷ []) h))

module _ (S : Type 0) (O : ℕ) (step : S → ℕ → ℕ → S) (Ok : S → ℕ → ℕ → Type 0) where
  -- from s, where the inputs `past` have led, each output along w is below O and its step is Ok
  abbrev pub AlongFrom : (List ℕ → ℕ) → List ℕ → S → List ℕ → Type 0
  AlongFrom f past s [] = Unit {0}
  AlongFrom f past s (i ∷ w) =
      let o = f (past ++ (i ∷ [])) in (o < O) × Ok s i o × AlongFrom f (past ++ (i ∷ [])) (step s i o) w

  along_from : (f : List ℕ → ℕ) (past : List ℕ) (s : S) (w : List ℕ)
      → AlongFrom f past s w ↔ Along S O step Ok (beyond past f) s w
  along_from f past s [] = (λ a. tt, λ a. tt)
  along_from f past s (i ∷ w) =
      let n : S = step s i (f (past ++ (i ∷ []))) in
      let rest = along_from f (past ++ (i ∷ [])) n w in
      let Goes : (List ℕ → ℕ) → Type 0 = λ g. Along S O step Ok g n w in (
        λ a. (a.0, a.1, subst Goes (beyond_more past f i) (rest.0 a.2)),
        λ a. (a.0, a.1, rest.1 (subst Goes (sym (beyond_more past f i)) a.2)),
      )

  -- each step along a word is Ok, in either reading
  pub along_absolute : (f : List ℕ → ℕ) (s : S) (w : List ℕ) → AlongFrom f [] s w ↔ Along S O step Ok f s w
  along_absolute f = along_from f []

module _
    (S : Type 0) (I O : ℕ) (step : S → ℕ → ℕ → S) (Ok : S → ℕ → ℕ → Type 0) (reward : S → ℕ → ℕ → ℕ)
  where
    -- from s, where the inputs `past` have led, the rewards along w
    abbrev pub rewards_from : (List ℕ → ℕ) → List ℕ → S → List ℕ → ℕ
    rewards_from f past s [] = 0
    rewards_from f past s (i ∷ w) =
        let o = f (past ++ (i ∷ [])) in reward s i o + rewards_from f (past ++ (i ∷ [])) (step s i o) w

    rewards_from_lem : (f : List ℕ → ℕ) (past : List ℕ) (s : S) (w : List ℕ)
        → rewards_from f past s w ≡ rewards S I O step Ok reward (beyond past f) s w
    rewards_from_lem f past s [] = refl
    rewards_from_lem f past s (i ∷ w) =
        let o : ℕ = f (past ++ (i ∷ [])) in
        ap (λ (x : ℕ). reward s i o + x)
        (rewards_from_lem f (past ++ (i ∷ [])) (step s i o) w
        ∙ ap (λ (g : List ℕ → ℕ). rewards S I O step Ok reward g (step s i o) w) (beyond_more past f i))

    -- the rewards along a word are the same in either reading
    pub rewards_absolute : (f : List ℕ → ℕ) (s : S) (w : List ℕ)
        → rewards_from f [] s w ≡ rewards S I O step Ok reward f s w
    rewards_absolute f = rewards_from_lem f []

    -- so is what a plan is
    pub plan_absolute : (H : ℕ) (s : S) (i : ℕ) (f : List ℕ → ℕ)
        → ((w : List ℕ) → Word I H w → AlongFrom S O step Ok f [] s (i ∷ w)) ↔ Plan S I O step Ok reward H s i f
    plan_absolute H s i f =
        let same = along_absolute S O step Ok f s in (λ a w r. (same (i ∷ w)).0 (a w r), λ a w r. (same (i ∷ w)).1 (a w r))

    -- and what it earns
    pub earns_absolute : (H : ℕ) (s : S) (i : ℕ) (f : List ℕ → ℕ)
        → total (λ w. rewards_from f [] s (i ∷ w)) (words I H) ≡ earns S I O step Ok reward H s i f
    earns_absolute H s i f = total_cong _ _ (words I H) (λ w. rewards_absolute f s (i ∷ w))

-- The same game over names of its states, as over their numbers: rounds, values and choices are those of the states.
-- Assumes nothing.
use Rattle.std.specs.Prelude.{◌≡◌, Bool, true, false, eqb}
use Rattle.std.proofs.Math.Path.{refl, ap, ap₂}
use Rattle.std.proofs.Common.{◌∙◌}
use Rattle.std.proofs.Math.Bool.{not, cond, ◌&&◌}
use Prim.Native.Nat.{ℕ, zero, suc, ◌+◌, ◌*◌, ◌^◌, ◌<◌}
use Rattle.records.specs.Laws.Bounded.{all_cong, any_cong, sum_cong, top_cong}
use Rattle.game.specs.Model.Rounds.{keeps, kept_after, dropped_by, may}
use Rattle.game.specs.Model.Value.{value, score, choice}
use Rattle.game.specs.Laws.Choice.{choose_cong}

-- `name a` is the state that a of In names; names pass the test that their states pass, and `go` follows `step` where it is passed
pub record Names
    (A S : Type 0) (I O : ℕ) (go : A → ℕ → ℕ → A) (step : S → ℕ → ℕ → S) (passes : A → ℕ → ℕ → Bool) (ok : S → ℕ → ℕ → Bool)
    (In : A → Type 0) (name : A → S) : Type 0 where
  pub tests : (a : A) (i o : ℕ) → In a → i < I → o < O → passes a i o ≡ ok (name a) i o
  pub inside : (a : A) (i o : ℕ) → In a → i < I → o < O → passes a i o ≡ true → In (go a i o)
  pub lands : (a : A) (i o : ℕ) → In a → i < I → o < O → passes a i o ≡ true → name (go a i o) ≡ step (name a) i o

and_cong : (a b : Bool) {x y : Bool} → a ≡ b → (a ≡ true → x ≡ y) → a && x ≡ b && y
and_cong true b e f = rw (← e) (f refl)
and_cong false b e f = rw (← e)

module _
    (A S : Type 0) (I O : ℕ) (go : A → ℕ → ℕ → A) (step : S → ℕ → ℕ → S) (passes : A → ℕ → ℕ → Bool) (ok : S → ℕ → ℕ → Bool)
    (In : A → Type 0) (name : A → S) (names : Names A S I O go step passes ok In name)
  where
    -- what is known of the kept states is enough for one round
    pub keeps_named : (keptA : A → Bool) (kept : S → Bool) → ((a : A) → In a → keptA a ≡ kept (name a))
        → (a : A) → In a → keeps A I O go passes keptA a ≡ keeps S I O step ok kept (name a)
    unfolding keeps
    keeps_named keptA kept e a g =
        all_cong I _ _ (λ i hi. any_cong O _ _ (λ o ho.
        and_cong _ _ (names.tests a i o g hi ho)
        (λ t. e (go a i o) (names.inside a i o g hi ho t) ∙ ap kept (names.lands a i o g hi ho t))))

    -- a name is kept when its state is
    pub kept_named : (r : ℕ) (a : A) → In a → kept_after A I O go passes r a ≡ kept_after S I O step ok r (name a)
    unfolding kept_after
    kept_named zero a g = refl
    kept_named (suc r) a g =
        ap₂ ◌&&◌ (kept_named r a g) (keeps_named (kept_after A I O go passes r) (kept_after S I O step ok r) (kept_named r) a g)

    -- and dropped in the round that drops its state
    pub dropped_named : (r : ℕ) (a : A) → In a → dropped_by A I O go passes r a ≡ dropped_by S I O step ok r (name a)
    unfolding dropped_by
    dropped_named zero a g = refl
    dropped_named (suc r) a g =
        ap₂ (λ (n : ℕ) (b : Bool). cond (eqb n 0 && not b) (suc r) n) (dropped_named r a g)
        (keeps_named (kept_after A I O go passes r) (kept_after S I O step ok r) (kept_named r) a g)

    -- an output may be given at a name when it may at its state
    pub may_named : (r : ℕ) (a : A) (i o : ℕ) → In a → i < I → o < O
        → may A I O go passes r a i o ≡ may S I O step ok r (name a) i o
    unfolding may
    may_named r a i o g hi ho =
        and_cong _ _ (names.tests a i o g hi ho)
        (λ t. kept_named r (go a i o) (names.inside a i o g hi ho t) ∙ ap (kept_after S I O step ok r) (names.lands a i o g hi ho t))

    -- values, scores and choices, where the test is the one of what may be given and rewards agree where it is passed
    module _
        (rewardA : A → ℕ → ℕ → ℕ) (reward : S → ℕ → ℕ → ℕ)
        (earns : (a : A) (i o : ℕ) → In a → i < I → o < O → passes a i o ≡ true → rewardA a i o ≡ reward (name a) i o)
      where
        -- a name has the value of its state
        pub value_named : (p : ℕ) (a : A) → In a → value A I O go passes rewardA p a ≡ value S I O step ok reward p (name a)
        unfolding value
        value_named zero a g = refl
        value_named (suc p) a g =
            sum_cong I _ _ (λ i hi. top_cong O _ _ _ _ (λ o ho. names.tests a i o g hi ho) (λ o ho t.
            ap₂ (λ (x y : ℕ). x * I ^ p + y) (earns a i o g hi ho t)
            (value_named p (go a i o) (names.inside a i o g hi ho t) ∙ ap (value S I O step ok reward p) (names.lands a i o g hi ho t))))

        -- an output that passes has the same score
        pub score_named : (H : ℕ) (a : A) (i o : ℕ) → In a → i < I → o < O → passes a i o ≡ true
            → score A I O go passes rewardA H a i o ≡ score S I O step ok reward H (name a) i o
        unfolding score
        score_named H a i o g hi ho t =
            ap₂ (λ (x y : ℕ). x * I ^ H + y) (earns a i o g hi ho t)
            (value_named H (go a i o) (names.inside a i o g hi ho t) ∙ ap (value S I O step ok reward H) (names.lands a i o g hi ho t))

        -- and the same output is chosen
        pub choice_named : (rank : ℕ → ℕ) (H : ℕ) (a : A) (i : ℕ) → In a → i < I
            → choice A I O go passes rewardA rank H a i ≡ choice S I O step ok reward rank H (name a) i
        unfolding choice
        choice_named rank H a i g hi =
            choose_cong _ _ _ _ rank O (λ o ho. names.tests a i o g hi ho) (λ o ho t. score_named H a i o g hi ho t)

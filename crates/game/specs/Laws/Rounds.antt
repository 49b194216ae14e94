-- Laws of the rounds: they find the states that survive for ever, and the number of steps in which a break is forced.
-- Assumes nothing.
use Rattle.std.specs.Prelude.{◌≡◌, ◌↔◌, Bool, ◌&&◌, ◌||◌}
use Rattle.std.proofs.Math.Path.{refl, sym}
use Rattle.std.proofs.Common.{ap, ◌∙◌, subst, add-zero, add-suc, eq-eqb, ne_eqb}
use Rattle.std.proofs.Math.Bool.{true, false, not, cond}
use mathlib.Core.List.{List, [], ◌∷◌}
use Prim.Native.Nat.{ℕ, zero, suc, ◌+◌, ◌≤◌, ◌<◌}
use Rattle.std.proofs.Math.Decide.{dec_lt}
use native.Mathlib.Omega.{arith}
use Rattle.std.proofs.Math.Dec.{eqb}
use Rattle.records.specs.Laws.Tests.{both_ways, by_test, and_left, and_right, and_both, and-not}
use Rattle.records.specs.Laws.Bounded.{all-at, all_of, all-not, any_at, any_of, any-not, count_le, count_tight}
use Rattle.game.specs.Meaning.Words.{Below, Word}
use Rattle.game.specs.Meaning.Strategy.{Along, after}
use Rattle.game.specs.Meaning.Survival.{Unbroken, Survives, Allowed}
use Rattle.game.specs.Meaning.Forcing.{Forces}
use Rattle.game.specs.Model.Moves.{Lasts}
use Rattle.game.specs.Laws.Survival.{survives_lasts, survives_less, lasts_less, forces_more, forces_lasts}
use Rattle.game.specs.Model.Choice.{Leads, choose}
use Rattle.game.specs.Laws.Choice.{choose_leads}
use Rattle.game.specs.Model.Rounds as modelRounds

module _ (S : Type 0) (I O : ℕ) (step : S → ℕ → ℕ → S) (ok : S → ℕ → ℕ → Bool) where
  abbrev keeps : (S → Bool) → S → Bool
  keeps = modelRounds.keeps S I O step ok

  abbrev kept_after : ℕ → S → Bool
  kept_after = modelRounds.kept_after S I O step ok

  abbrev dropped_by : ℕ → S → ℕ
  dropped_by = modelRounds.dropped_by S I O step ok

  abbrev may : ℕ → S → ℕ → ℕ → Bool
  may = modelRounds.may S I O step ok

  abbrev Quiet : (S → Type 0) → ℕ → Type 0
  Quiet = modelRounds.Quiet S I O step ok

  abbrev Good : (In : S → Type 0) (r : ℕ) (s : S) → Type 0
  Good = modelRounds.Good S I O step ok

  abbrev kept_count : ℕ → (ℕ → S) → ℕ → ℕ
  kept_count = modelRounds.kept_count S I O step ok

  -- ---- what a round finds

  -- what `keeps` says
  pub keeps-at : (kept : S → Bool) (s : S) → keeps kept s ≡ true
      → (i : ℕ) → i < I → (o : ℕ) × (o < O) × (ok s i o ≡ true) × (kept (step s i o) ≡ true)
  unfolding modelRounds.keeps
  keeps-at kept s e i h =
      let x = any_at O _ (all-at I _ e i h) in
      (x.0, x.1, and_left (ok s i x.0) _ x.2, and_right (ok s i x.0) _ x.2)

  -- and when it holds
  pub keeps_of : (kept : S → Bool) (s : S)
      → ((i : ℕ) → i < I → (o : ℕ) × (o < O) × (ok s i o ≡ true) × (kept (step s i o) ≡ true)) → keeps kept s ≡ true
  unfolding modelRounds.keeps
  keeps_of kept s m =
      all_of I _ (λ i h. let x = m i h in any_of O _ x.0 x.1 (and_both (ok s i x.0) _ x.2 x.3))

  -- what it says where it fails: some input has no such output
  pub keeps-not : (kept : S → Bool) (s : S) → keeps kept s ≡ false
      → (i : ℕ) × (i < I) × ((o : ℕ) → o < O → ok s i o ≡ true → kept (step s i o) ≡ false)
  unfolding modelRounds.keeps
  keeps-not kept s e =
      let x = all-not I _ e in
      (x.0, x.1, λ o h k. and-not (ok s x.0 o) _ (any-not O _ x.2 o h) (λ z. both_ways k z) (λ z. z))

  kept_lasts : (r : ℕ) (s : S) → kept_after r s ≡ true → Lasts S I O step ok r s
  unfolding modelRounds.kept_after
  kept_lasts zero s e = tt
  kept_lasts (suc r) s e = λ i h.
      let x = keeps-at (kept_after r) s (and_right (kept_after r s) _ e) i h in (x.0, x.1, x.2, kept_lasts r _ x.3)

  lasts_kept : (r : ℕ) (s : S) → Lasts S I O step ok r s → kept_after r s ≡ true
  unfolding modelRounds.kept_after
  lasts_kept zero s m = refl
  lasts_kept (suc r) s m =
      and_both (kept_after r s) _ (lasts_kept r s (lasts_less S I O step ok r (suc r) s (omega arith) m))
      (keeps_of (kept_after r) s (λ i h. let x = m i h in (x.0, x.1, x.2, lasts_kept r _ x.3)))

  -- a state is kept after r rounds exactly if r inputs can be survived from it
  pub kept_survives : (r : ℕ) (s : S) → (kept_after r s ≡ true) ↔ Survives S I O step ok r s
  kept_survives r s =
      let j = survives_lasts S I O step ok r s in (λ e. j.1 (kept_lasts r s e), λ p. lasts_kept r s (j.0 p))

  lost_forced : (r : ℕ) (s : S) → kept_after r s ≡ false → Forces S I O step ok r s
  unfolding modelRounds.kept_after
  lost_forced zero s e = both_ways refl e
  lost_forced (suc r) s e =
      and-not (kept_after r s) _ e (λ q. forces_more S I O step ok r s (lost_forced r s q)) (λ q.
      let x = keeps-not (kept_after r) s q in (x.0, x.1, λ o h k. lost_forced r _ (x.2 o h k)))

  -- and is not kept exactly if the inputs can force a break within r steps
  pub lost_forces : (r : ℕ) (s : S) → (kept_after r s ≡ false) ↔ Forces S I O step ok r s
  lost_forces r s = (
    lost_forced r s,
    λ f. by_test (kept_after r s) (λ e. absurd (forces_lasts S I O step ok r s f (kept_lasts r s e))) (λ e. e),
  )

  -- kept after more rounds, kept after fewer
  pub kept_less : (m n : ℕ) (s : S) → m ≤ n → kept_after n s ≡ true → kept_after m s ≡ true
  kept_less m n s h e = lasts_kept m s (lasts_less S I O step ok m n s h (kept_lasts n s e))

  -- ---- the round that dropped a state

  -- after r rounds the state is kept exactly if none of them dropped it
  pub kept_dropped : (r : ℕ) (s : S) → kept_after r s ≡ eqb (dropped_by r s) 0
  unfolding modelRounds.kept_after modelRounds.dropped_by
  kept_dropped zero s = refl
  kept_dropped (suc r) s = rw (kept_dropped r s) (go (eqb (dropped_by r s) 0) (keeps (kept_after r) s) refl)
    where
      go : (a b : Bool) → eqb (dropped_by r s) 0 ≡ a → a && b ≡ eqb (cond (a && not b) (suc r) (dropped_by r s)) 0
      go true true e = sym e
      go true false e = sym (ne_eqb (suc r) 0 (omega arith))
      go false b e = sym e

  -- one more round: what the state's entry becomes
  pub dropped_more : (r : ℕ) (s : S)
      → dropped_by (suc r) s ≡ cond (kept_after r s && not (keeps (kept_after r) s)) (suc r) (dropped_by r s)
  unfolding modelRounds.dropped_by
  dropped_more r s = rw (kept_dropped r s)

  -- the round is one of the first r
  pub dropped_le : (r : ℕ) (s : S) → dropped_by r s ≤ r
  unfolding modelRounds.dropped_by
  dropped_le zero s = omega arith
  dropped_le (suc r) s = go (eqb (dropped_by r s) 0 && not (keeps (kept_after r) s)) (dropped_le r s)
    where
      go : (b : Bool) → dropped_by r s ≤ r → cond b (suc r) (dropped_by r s) ≤ suc r
      go true h = omega arith
      go false h = omega arith

  -- while round r + 1 goes on, "kept after r rounds" is read off an entry that it has not been at: 0, or r + 1
  pub kept_before : (r : ℕ) (s : S) → kept_after r s ≡ eqb (dropped_by r s) 0 || eqb (dropped_by r s) (suc r)
  kept_before r s =
      rw (kept_dropped r s, ne_eqb (dropped_by r s) (suc r) (λ e. omega (arith, dropped_le r s))) (plain (eqb (dropped_by r s) 0))
    where
      plain : (b : Bool) → b ≡ b || false
      plain true = refl
      plain false = refl

  -- the same, of an entry that the round has been at
  pub kept_during : (r : ℕ) (s : S) → kept_after r s ≡ eqb (dropped_by (suc r) s) 0 || eqb (dropped_by (suc r) s) (suc r)
  kept_during r s = rw (dropped_more r s) (go (kept_after r s) (keeps (kept_after r) s) refl)
    where
      go : (a b : Bool) → kept_after r s ≡ a
          → a ≡ eqb (cond (a && not b) (suc r) (dropped_by r s)) 0 || eqb (cond (a && not b) (suc r) (dropped_by r s)) (suc r)
      go true true e = sym e ∙ kept_before r s
      go true false e = rw (ne_eqb (suc r) 0 (omega arith), eq-eqb (suc r) (suc r) refl)
      go false b e = sym e ∙ kept_before r s

  -- round k + 1 drops the state: it is kept after k rounds, and not after k + 1
  dropped_at : (r k : ℕ) (s : S) → dropped_by r s ≡ suc k → (kept_after k s ≡ true) × (kept_after (suc k) s ≡ false)
  unfolding modelRounds.kept_after modelRounds.dropped_by
  dropped_at zero k s e = absurd (omega arith)
  dropped_at (suc r) k s e = go (eqb (dropped_by r s) 0) (keeps (kept_after r) s) refl refl e (dropped_at r k s)
    where
      Facts : Type 0
      Facts = (kept_after k s ≡ true) × (kept_after k s && keeps (kept_after k) s ≡ false)

      go : (a b : Bool) → eqb (dropped_by r s) 0 ≡ a → keeps (kept_after r) s ≡ b
          → cond (a && not b) (suc r) (dropped_by r s) ≡ suc k → (dropped_by r s ≡ suc k → Facts) → Facts
      go true true p q t rest = rest t
      go true false p q t rest =
          let same : k ≡ r = omega arith in
          let kept : kept_after r s ≡ true = kept_dropped r s ∙ p in
          subst (λ (j : ℕ). (kept_after j s ≡ true) × (kept_after j s && keeps (kept_after j) s ≡ false)) (sym same)
          (kept, rw (kept, q))
      go false b p q t rest = rest t

  -- a state that round k + 1 drops survives k inputs and not k + 1: the inputs can force a break within k + 1 steps
  pub dropped : (r k : ℕ) (s : S) → dropped_by r s ≡ suc k
      → Survives S I O step ok k s × (¬ Survives S I O step ok (suc k) s) × Forces S I O step ok (suc k) s
  dropped r k s e =
      let x = dropped_at r k s e in (
        (kept_survives k s).0 x.0,
        λ p. both_ways ((kept_survives (suc k) s).1 p) x.1,
        (lost_forces (suc k) s).0 x.1,
      )

  -- and no other state is dropped in that round
  pub dropped_in : (r k : ℕ) (s : S) → k < r → Survives S I O step ok k s → (¬ Survives S I O step ok (suc k) s)
      → dropped_by r s ≡ suc k
  dropped_in r k s h p n = go (dropped_by r s) refl
    where
      go : (d : ℕ) → dropped_by r s ≡ d → d ≡ suc k
      go zero e =
          absurd (n (survives_less S I O step ok (suc k) r s h ((kept_survives r s).0 (kept_dropped r s ∙ eq-eqb _ 0 e))))
      go (suc j) e =
          let x = dropped r j s e in
          elim (dec_lt j k) [
            | yes u ↦ absurd (x.1 (survives_less S I O step ok (suc j) k s u p))
            | no u ↦ elim (dec_lt k j) [
              | yes v ↦ absurd (n (survives_less S I O step ok (suc k) j s v x.0))
              | no v ↦ omega arith
            ]
          ]

  -- ---- after a quiet round, over states that no unbroken step leaves

  module _
      (In : S → Type 0)
      (closed : (s : S) (i o : ℕ) → In s → i < I → o < O → ok s i o ≡ true → In (step s i o))
      (r : ℕ) (quiet : Quiet In r)
    where
      next_quiet : (q : ℕ) → Quiet In q → Quiet In (suc q)
      unfolding modelRounds.kept_after
      next_quiet q u s g e =
          and_both (kept_after (suc q) s) _ e
          (keeps_of (kept_after (suc q)) s (λ i h.
          let x = keeps-at (kept_after q) s (and_right (kept_after q s) _ e) i h in
          (x.0, x.1, x.2, u (step s i x.0) (closed s i x.0 g h x.1 x.2) x.3)))

      -- nothing is dropped any more
      pub quiet_on : (d : ℕ) → Quiet In (r + d)
      quiet_on zero = subst (Quiet In) (sym (add-zero r)) quiet
      quiet_on (suc d) = subst (Quiet In) (sym (add-suc r d)) (next_quiet (r + d) (quiet_on d))

      -- who is kept stays kept
      pub kept_on : (s : S) → In s → kept_after r s ≡ true → (d : ℕ) → kept_after (r + d) s ≡ true
      kept_on s g e zero = rw add-zero e
      kept_on s g e (suc d) = rw add-suc (quiet_on d s g (kept_on s g e d))

      -- the kept states are exactly those from which every number of inputs can be survived
      pub kept_iff : (s : S) → In s → (kept_after r s ≡ true) ↔ ((n : ℕ) → Survives S I O step ok n s)
      kept_iff s g = (
        λ e n. survives_less S I O step ok n (r + n) s (omega arith) ((kept_survives (r + n) s).0 (kept_on s g e n)),
        λ p. (kept_survives r s).1 (p r),
      )

      -- the others are those from which some number of inputs cannot
      pub lost_iff : (s : S) → In s → (kept_after r s ≡ false) ↔ ((n : ℕ) × (¬ Survives S I O step ok n s))
      lost_iff s g = (
        λ e. (r, λ p. both_ways ((kept_survives r s).1 p) e),
        λ x. by_test (kept_after r s) (λ e. absurd (x.1 ((kept_iff s g).0 e x.0))) (λ e. e),
      )

      -- the test decides what is allowed
      pub allowed_iff : (s : S) (i o : ℕ) → In s → i < I → o < O → (may r s i o ≡ true) ↔ Allowed S I O step ok s i o
      unfolding modelRounds.may
      allowed_iff s i o g hi ho = (
        λ e.
            let fine : ok s i o ≡ true = and_left _ _ e in
            record {
              output = ho;
              unbroken = fine;
              survives = (kept_iff (step s i o) (closed s i o g hi ho fine)).0 (and_right (ok s i o) _ e);
            },
        λ a. and_both _ _ a.unbroken ((kept_iff (step s i o) (closed s i o g hi ho a.unbroken)).1 a.survives),
      )

      -- a good state has, for each input, an output that may be given
      pub live : (s : S) (i : ℕ) → Good In r s → i < I → (o : ℕ) × (o < O) × (may r s i o ≡ true)
      unfolding modelRounds.may modelRounds.kept_after
      live s i g h =
          let x = keeps-at (kept_after r) s (and_right (kept_after r s) _ (quiet s g.inside g.kept)) i h in
          (x.0, x.1, and_both _ _ x.2 x.3)

      -- and such an output leads to a good state
      pub stays : (s : S) (i o : ℕ) → Good In r s → i < I → o < O → may r s i o ≡ true → Good In r (step s i o)
      unfolding modelRounds.may
      stays s i o g hi ho e =
          record { inside = closed s i o g.inside hi ho (and_left _ _ e); kept = and_right (ok s i o) _ e }

      -- the strategy that answers each input with an output that may be given
      safe : S → ℕ → ℕ
      safe s i = choose O (may r s i) (λ o. 0) (λ o. o)

      hold : S → List ℕ → ℕ
      hold s [] = 0
      hold s (i ∷ []) = safe s i
      hold s (i ∷ j ∷ h) = hold (step s i (safe s i)) (j ∷ h)

      safe_leads : (s : S) (i : ℕ) → Good In r s → i < I → Leads O (may r s i) (λ o. 0) (λ o. o) (safe s i)
      unfolding safe
      safe_leads s i g h = let x = live s i g h in choose_leads (may r s i) (λ o. 0) (λ o. o) O x.0 x.1 x.2

      hold_on : (s : S) (i : ℕ) (w : List ℕ)
          → Along S O step (Unbroken S I O step ok) (hold (step s i (safe s i))) (step s i (safe s i)) w
          → Along S O step (Unbroken S I O step ok) (after i (hold s)) (step s i (safe s i)) w
      unfolding hold
      hold_on s i [] a = tt
      hold_on s i (j ∷ w) a = a

      hold_along : (s : S) → Good In r s → (w : List ℕ) → Below I w → Along S O step (Unbroken S I O step ok) (hold s) s w
      unfolding hold modelRounds.may
      hold_along s g [] b = tt
      hold_along s g (i ∷ w) b =
          let l = safe_leads s i g b.0 in
          let onward : Good In r (step s i (safe s i)) = stays s i (safe s i) g b.0 l.low l.pass in
          (l.low, and_left _ _ l.pass, hold_on s i w (hold_along (step s i (safe s i)) onward w b.1))

      -- from a good state one strategy survives for ever
      pub survives_for_ever : (s : S) → Good In r s
          → (f : List ℕ → ℕ) × ((n : ℕ) (w : List ℕ) → Word I n w → Along S O step (Unbroken S I O step ok) f s w)
      survives_for_ever s g = (hold s, λ n w v. hold_along s g w v.below)

  -- ---- the rounds stop, where the states of In are among name 0, .., name (N - 1)

  module _ (N : ℕ) (name : ℕ → S) where
    -- a round that leaves no fewer has dropped none
    count-stays : (r : ℕ) → kept_count N name r ≤ kept_count N name (suc r)
        → (k : ℕ) → k < N → kept_after r (name k) ≡ true → kept_after (suc r) (name k) ≡ true
    count-stays r =
        count_tight N (λ k. kept_after (suc r) (name k)) (λ k. kept_after r (name k))
        (λ k l e. kept_less r (suc r) (name k) (omega arith) e)

    -- a round that drops one leaves fewer
    pub count_falls : (r k : ℕ) → k < N → kept_after r (name k) ≡ true → kept_after (suc r) (name k) ≡ false
        → kept_count N name (suc r) < kept_count N name r
    count_falls r k h e f =
        elim (dec_lt (kept_count N name (suc r)) (kept_count N name r)) [
          | yes u ↦ u
          | no u ↦ both_ways (count-stays r (omega arith) k h e) f
        ]

    module _ (In : S → Type 0) (named : (s : S) → In s → (k : ℕ) × (k < N) × (name k ≡ s)) where
      -- a round that drops none of them is quiet
      pub quiet_named : (r : ℕ) → ((k : ℕ) → k < N → kept_after r (name k) ≡ true → kept_after (suc r) (name k) ≡ true)
          → Quiet In r
      quiet_named r h s g e = let x = named s g in rw x.2 at (h x.0 x.1 (rw x.2 e))

      -- so is one that changes none of their entries
      pub quiet_entries : (r : ℕ) → ((k : ℕ) → k < N → dropped_by (suc r) (name k) ≡ dropped_by r (name k)) → Quiet In r
      quiet_entries r same =
          quiet_named r (λ k h e.
          kept_dropped (suc r) (name k) ∙ ap (λ (d : ℕ). eqb d 0) (same k h) ∙ sym (kept_dropped r (name k)) ∙ e)

      quiet_within : (d r : ℕ) → kept_count N name r ≤ d → (q : ℕ) × (q ≤ r + d) × Quiet In q
      quiet_within zero r h = (r, omega arith, quiet_named r (count-stays r (omega arith)))
      quiet_within (suc d) r h =
          elim (dec_lt (kept_count N name (suc r)) (kept_count N name r)) [
            | yes k ↦ let x = quiet_within d (suc r) (omega arith) in (x.0, omega (arith, x.1), x.2)
            | no k ↦ (r, omega arith, quiet_named r (count-stays r (omega arith)))
          ]

      -- a quiet round comes after at most N others
      pub stops : (q : ℕ) × (q ≤ N) × Quiet In q
      stops = let x = quiet_within N 0 (count_le N _) in (x.0, omega (arith, x.1), x.2)

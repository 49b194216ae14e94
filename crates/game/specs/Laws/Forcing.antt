-- Forcing a break: ways of giving inputs are moves, and the round that drops a state is the least number of steps.
-- Assumes nothing.
use Rattle.std.specs.Prelude.{◌≡◌, ◌↔◌, Bool, not, ◌||◌, eqb, leb}
use Rattle.std.proofs.Math.Path.{refl}
use Rattle.std.proofs.Common.{◌∙◌, arith, eq-eqb, ne_eqb, le-leb}
use Rattle.std.proofs.Math.Bool.{true, false}
use mathlib.Core.List.{List, [], ◌∷◌}
use Prim.Native.Nat.{ℕ, zero, suc, ◌-◌, ◌≤◌, ◌<◌}
use Rattle.std.proofs.Math.Decide.{dec_lt}
use Rattle.std.proofs.lemmas.Bool.{lt-leb}
use Rattle.records.specs.Meaning.Bounded.{any}
use Rattle.records.specs.Laws.Bounded.{any-not, any_none}
use Rattle.records.specs.Laws.Tests.{both_ways, by_test}
use Rattle.game.specs.Meaning.Words.{Word}
use Rattle.game.specs.Meaning.Strategy.{after}
use Rattle.game.specs.Meaning.Forcing as meaningForcing
use Rattle.game.specs.Laws.Words.{word_cons, word_tail}
use Rattle.game.specs.Laws.Survival.{survives_less, forces_survives}
use Rattle.game.specs.Model.Rounds as modelRounds
use Rattle.game.specs.Laws.Rounds.{kept_survives, kept_less, kept_dropped, lost_forces, dropped}

module _ (S : Type 0) (I O : ℕ) (step : S → ℕ → ℕ → S) (ok : S → ℕ → ℕ → Bool) where
  abbrev Forces : ℕ → S → Type 0
  Forces = meaningForcing.Forces S I O step ok

  abbrev ForcesAfter : ℕ → S → ℕ → Type 0
  ForcesAfter = meaningForcing.ForcesAfter S I O step ok

  abbrev Beats : ℕ → S → (List ℕ → ℕ) → Type 0
  Beats = meaningForcing.Beats S I O step ok

  abbrev ForcedBy : S → ℕ → ℕ → Type 0
  ForcedBy = meaningForcing.ForcedBy S I O step ok

  -- ---- ways of giving inputs and moves

  -- what is left of a way after an unbroken answer
  left : (n : ℕ) (s : S) (g : List ℕ → ℕ) → Beats (suc n) s g
      → (o : ℕ) → o < O → ok s (g []) o ≡ true → Beats n (step s (g []) o) (after o g)
  unfolding meaningForcing.breaks
  left n s g b o h k =
      record {
        inputs = λ w. b.inputs (o ∷ w);
        wins = λ w r. rw k at (b.wins (o ∷ w) (word_cons O n o w h r));
      }

  moves : (n : ℕ) (s : S) (g : List ℕ → ℕ) → Beats n s g → Forces n s
  unfolding meaningForcing.breaks
  moves zero s g b = both_ways (b.wins [] (record { long = refl; below = tt })) refl
  moves (suc n) s g b = (g [], b.inputs [], λ o h k. moves n (step s (g []) o) (after o g) (left n s g b o h k))

  -- an input, and a way for each unbroken answer, joined to one way; the input again where none is asked for
  join_at : (s : S) (i : ℕ) → ((o : ℕ) → o < O → ok s i o ≡ true → List ℕ → ℕ)
      → (o : ℕ) → Dec (o < O) → (b : Bool) → ok s i o ≡ b → List ℕ → ℕ
  join_at s i rest o (yes h) true e = rest o h e
  join_at s i rest o (yes h) false e = λ w. i
  join_at s i rest o (no h) b e = λ w. i

  join : (s : S) (i : ℕ) → ((o : ℕ) → o < O → ok s i o ≡ true → List ℕ → ℕ) → List ℕ → ℕ
  join s i rest [] = i
  join s i rest (o ∷ w) = join_at s i rest o (dec_lt o O) (ok s i o) refl w

  module _
      (n : ℕ) (s : S) (i : ℕ) (low : i < I)
      (rest : (o : ℕ) → o < O → ok s i o ≡ true → (g : List ℕ → ℕ) × Beats n (step s i o) g)
    where
      join_low : (o : ℕ) (d : Dec (o < O)) (b : Bool) (e : ok s i o ≡ b) (w : List ℕ) → join_at s i (λ q h k. (rest q h k).0) o d b e w < I
      unfolding join_at
      join_low o (yes h) true e w = (rest o h e).1.inputs w
      join_low o (yes h) false e w = low
      join_low o (no h) b e w = low

      join_wins : (o : ℕ) (d : Dec (o < O)) (b : Bool) (e : ok s i o ≡ b) → o < O → (w : List ℕ) → Word O n w
          → not b || meaningForcing.breaks S I O step ok (join_at s i (λ q h k. (rest q h k).0) o d b e) (step s i o) w ≡ true
      unfolding join_at
      join_wins o (yes h) true e u w r = (rest o h e).1.wins w r
      join_wins o (yes h) false e u w r = refl
      join_wins o (no h) b e u w r = absurd (h u)

      -- the way that begins with i
      begin_with : (g : List ℕ → ℕ) × Beats (suc n) s g × (g [] ≡ i)
      unfolding join meaningForcing.breaks
      begin_with = let g : List ℕ → ℕ = join s i (λ q h k. (rest q h k).0) in (
        g,
        record {
          inputs = λ h. elim h as (λ v. g v < I) [ [] ↦ low | o ∷ w ↦ join_low o (dec_lt o O) (ok s i o) refl w ];
          wins = λ w. elim w as (λ v. Word O (suc n) v → meaningForcing.breaks S I O step ok g s v ≡ true) [
            | [] ↦ λ r. absurd (omega (arith, r.long))
            | o ∷ v ↦ λ r. join_wins o (dec_lt o O) (ok s i o) refl r.below.0 v (word_tail O n o v r)
          ];
        },
        refl,
      )

  giving : (n : ℕ) (s : S) → Forces n s → (g : List ℕ → ℕ) × Beats n s g
  giving zero s f = absurd f
  giving (suc n) s f =
      let x = begin_with n s f.0 f.1 (λ o h k. giving n (step s f.0 o) (f.2 o h k)) in (x.0, x.1)

  -- a way of giving inputs beats every answer within n steps exactly if a break can be forced from move to move
  pub beats_forces : (n : ℕ) (s : S) → ((g : List ℕ → ℕ) × Beats n s g) ↔ Forces n s
  beats_forces n s = (λ x. moves n s x.0 x.1, giving n s)

  -- and one does that begins with i exactly if i does so
  pub beats_after : (n : ℕ) (s : S) (i : ℕ) → ((g : List ℕ → ℕ) × Beats (suc n) s g × (g [] ≡ i)) ↔ ((i < I) × ForcesAfter n s i)
  beats_after n s i = (
    λ x. rw (← x.2) (x.1.inputs [], λ o h k. moves n _ (after o x.0) (left n s x.0 x.1 o h k)),
    λ x. begin_with n s i x.0 (λ o h k. giving n (step s i o) (x.1 o h k)),
  )

  -- ---- the round that drops a state is the least number of steps

  abbrev kept_after : ℕ → S → Bool
  kept_after = modelRounds.kept_after S I O step ok

  abbrev dropped_by : ℕ → S → ℕ
  dropped_by = modelRounds.dropped_by S I O step ok

  abbrev may : ℕ → S → ℕ → ℕ → Bool
  may = modelRounds.may S I O step ok

  -- after m of r rounds a state is kept exactly if none of the r dropped it, or a later one did
  pub kept_by : (r m : ℕ) (s : S) → m ≤ r → kept_after m s ≡ eqb (dropped_by r s) 0 || leb (suc m) (dropped_by r s)
  kept_by r m s h = go (dropped_by r s) refl
    where
      go : (x : ℕ) → dropped_by r s ≡ x → kept_after m s ≡ eqb x 0 || leb (suc m) x
      go zero e = kept_less S I O step ok m r s h (kept_dropped S I O step ok r s ∙ eq-eqb _ 0 e)
      go (suc k) e =
          let x = dropped S I O step ok r k s e in
          rw (ne_eqb (suc k) 0 (λ z. omega arith))
          (elim (dec_lt k m) [
            | yes u ↦ rw (lt-leb (suc m) (suc k) (omega arith))
                (by_test (kept_after m s)
                (λ y. absurd (x.1 (survives_less S I O step ok (suc k) m s u ((kept_survives S I O step ok m s).0 y)))) (λ y. y))
            | no u ↦ rw (le-leb (suc m) (suc k) (omega arith))
                ((kept_survives S I O step ok m s).1 (survives_less S I O step ok m k s (omega arith) x.0))
          ])

  module _ (r m : ℕ) (s : S) (out : dropped_by r s ≡ suc m) where
    -- an input has no answer that may be given after m rounds exactly if it forces a break within m + 1 steps
    after_forces : (i : ℕ) → any O (may m s i) ≡ false → ForcesAfter m s i
    unfolding modelRounds.may
    after_forces i e o h k =
        (lost_forces S I O step ok m (step s i o)).0 (rw k at (any-not O (may m s i) e o h))

    forces_none : (i : ℕ) → ForcesAfter m s i → any O (may m s i) ≡ false
    unfolding modelRounds.may
    forces_none i f =
        any_none O (may m s i) (λ o h. by_test (ok s i o) (λ y. rw y ((lost_forces S I O step ok m (step s i o)).1 (f o h y))) (λ y. rw y))

    -- some input does
    pub some_forces : (i : ℕ) × (i < I) × (any O (may m s i) ≡ false)
    some_forces =
        let x = (dropped S I O step ok r m s out).2 in (x.0, x.1, forces_none x.0 x.2)

    -- and the lowest of them with the number of the round is how a break is forced
    pub forced : (i : ℕ) → i < I → any O (may m s i) ≡ false → ((j : ℕ) → j < i → any O (may m s j) ≡ true) → ForcedBy s (suc m) i
    forced i h e lower =
        record {
          forces = (dropped S I O step ok r m s out).2;
          soonest = soonest;
          input = h;
          begins = rw one_less (after_forces i e);
          lowest = λ j l f. both_ways (lower j l) (forces_none j (rw one_less at f));
          way = way.0;
          beats = way.1;
          first = way.2;
          none_sooner = λ q l g b. soonest q l ((beats_forces q s).0 (g, b));
          none_lower = λ g b l. both_ways (lower (g []) l) (forces_none (g []) ((beats_after m s (g [])).0 (g, b, refl)).1);
        }
      where
        one_less : suc m - 1 ≡ m
        one_less = omega arith

        way : (g : List ℕ → ℕ) × Beats (suc m) s g × (g [] ≡ i)
        way = (beats_after m s i).1 (h, after_forces i e)

        soonest : (q : ℕ) → q < suc m → Forces q s → ⊥
        soonest q l f =
            forces_survives S I O step ok q s f (survives_less S I O step ok q m s (omega arith) (dropped S I O step ok r m s out).0)

  -- ---- no other number and no other input is

  pub forced_once : {s : S} {n m i j : ℕ} → ForcedBy s n i → ForcedBy s m j → (n ≡ m) × (i ≡ j)
  forced_once {s} {n} {m} {i} {j} x y =
      (same, order i j (λ l. y.lowest i l (rw same at x.begins)) (λ l. x.lowest j l (rw same y.begins)))
    where
      order : (a b : ℕ) → (a < b → ⊥) → (b < a → ⊥) → a ≡ b
      order a b f g = elim (dec_lt a b) [ yes l ↦ absurd (f l) | no l ↦ elim (dec_lt b a) [ yes u ↦ absurd (g u) | no u ↦ omega arith ] ]

      same : n ≡ m
      same = order n m (λ l. y.soonest n l x.forces) (λ l. x.soonest m l y.forces)

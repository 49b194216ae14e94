-- Laws of the safety game: strategies and moves, fewer inputs, and forcing a break.
-- Assumes nothing.
use Rattle.std.specs.Prelude.{◌≡◌, ◌↔◌, Bool, true, replicate}
use mathlib.Core.List.{List, [], ◌∷◌}
use Prim.Native.Nat.{ℕ, zero, suc, ◌≤◌, ◌<◌}
use Rattle.std.proofs.Math.Decide.{dec_lt}
use Rattle.std.proofs.Common.{arith}
use Rattle.game.specs.Meaning.Words.{Word}
use Rattle.game.specs.Laws.Words.{some_word, word_cons, word_tail}
use Rattle.game.specs.Meaning.Strategy.{Along, first, after}
use Rattle.game.specs.Laws.Strategy.{firstly, along_firstly}
use Rattle.game.specs.Meaning.Survival as meaningSurvival
use Rattle.game.specs.Meaning.Forcing as meaningForcing
use Rattle.game.specs.Model.Moves as modelMoves

module _ (S : Type 0) (I O : ℕ) (step : S → ℕ → ℕ → S) (ok : S → ℕ → ℕ → Bool) where
  abbrev Unbroken : S → ℕ → ℕ → Type 0
  Unbroken = meaningSurvival.Unbroken S I O step ok

  abbrev Survives : ℕ → S → Type 0
  Survives = meaningSurvival.Survives S I O step ok

  abbrev Lasts : ℕ → S → Type 0
  Lasts = modelMoves.Lasts S I O step ok

  abbrev Forces : ℕ → S → Type 0
  Forces = meaningForcing.Forces S I O step ok

  -- ---- strategies and moves

  moves : (n : ℕ) (s : S) → Survives n s → Lasts n s
  moves zero s p = tt
  moves (suc n) s p = λ i h.
      let f : List ℕ → ℕ = p.0 in
      let one = p.1 (i ∷ replicate n i) (word_cons I n i _ h (some_word I n i h)) in
      (first i f, one.0, one.1, moves n (step s i (first i f)) (after i f, λ w r. (p.1 (i ∷ w) (word_cons I n i w h r)).2))

  -- an output and a strategy for each first input, joined to one strategy
  join_at : ((i : ℕ) → i < I → ℕ) → ((i : ℕ) → i < I → List ℕ → ℕ) → (i : ℕ) → Dec (i < I) → List ℕ → ℕ
  join_at out rest i (yes h) = firstly (out i h) (rest i h)
  join_at out rest i (no h) = λ w. 0

  join : ((i : ℕ) → i < I → ℕ) → ((i : ℕ) → i < I → List ℕ → ℕ) → List ℕ → ℕ
  join out rest [] = 0
  join out rest (i ∷ w) = join_at out rest i (dec_lt i I) w

  join_along : (n : ℕ) (s : S) (m : Lasts (suc n) s) (rest : (i : ℕ) (h : i < I) → Survives n (step s i (m i h).0))
      (i : ℕ) (d : Dec (i < I)) → i < I → (w : List ℕ) → Word I n w
      → let f : List ℕ → ℕ = join_at (λ j h. (m j h).0) (λ j h. (rest j h).0) i d in
      (f [] < O) × (ok s i (f []) ≡ true) × Along S O step Unbroken f (step s i (f [])) w
  unfolding join_at
  join_along n s m rest i (yes h) k w r =
      ((m i h).1, (m i h).2, along_firstly S O step Unbroken (m i h).0 (rest i h).0 (step s i (m i h).0) w ((rest i h).1 w r))
  join_along n s m rest i (no h) k w r = absurd (h k)

  strategy : (n : ℕ) (s : S) → Lasts n s → Survives n s
  unfolding join
  strategy zero s m = (
    λ h. 0,
    λ w. elim w as (λ v. Word I zero v → Along S O step Unbroken (λ h. 0) s v) [
      | [] ↦ λ r. tt
      | i ∷ v ↦ λ r. absurd (omega (arith, r.long))
    ],
  )
  strategy (suc n) s m =
      let rest : (i : ℕ) (h : i < I) → Survives n (step s i (m i h).0) = λ i h. strategy n _ (m i h).3 in
      let f : List ℕ → ℕ = join (λ j h. (m j h).0) (λ j h. (rest j h).0) in (
        f,
        λ w. elim w as (λ v. Word I (suc n) v → Along S O step Unbroken f s v) [
          | [] ↦ λ r. tt
          | i ∷ v ↦ λ r. join_along n s m rest i (dec_lt i I) r.below.0 v (word_tail I n i v r)
        ],
      )

  -- a strategy survives n inputs exactly if they can be survived from move to move
  pub survives_lasts : (n : ℕ) (s : S) → Survives n s ↔ Lasts n s
  survives_lasts n s = (moves n s, strategy n s)

  -- ---- fewer inputs

  -- who lasts n inputs lasts fewer
  pub lasts_less : (m n : ℕ) (s : S) → m ≤ n → Lasts n s → Lasts m s
  lasts_less zero n s h l = tt
  lasts_less (suc m) zero s h l = absurd (omega arith)
  lasts_less (suc m) (suc n) s h l = λ i u.
      let x = l i u in (x.0, x.1, x.2, lasts_less m n (step s i x.0) (omega arith) x.3)

  -- who survives n inputs survives fewer
  pub survives_less : (m n : ℕ) (s : S) → m ≤ n → Survives n s → Survives m s
  survives_less m n s h p = strategy m s (lasts_less m n s h (moves n s p))

  -- ---- forcing a break

  -- a break that is forced within n steps is forced within n + 1
  pub forces_more : (n : ℕ) (s : S) → Forces n s → Forces (suc n) s
  forces_more zero s f = absurd f
  forces_more (suc n) s f = (f.0, f.1, λ o h k. forces_more n (step s f.0 o) (f.2 o h k))

  -- no state both forces a break within n steps and survives n inputs
  pub forces_lasts : (n : ℕ) (s : S) → Forces n s → Lasts n s → ⊥
  forces_lasts zero s f l = f
  forces_lasts (suc n) s f l =
      let x = l f.0 f.1 in forces_lasts n (step s f.0 x.0) (f.2 x.0 x.1 x.2) x.3

  -- nor survives by a strategy
  pub forces_survives : (n : ℕ) (s : S) → Forces n s → ¬ Survives n s
  forces_survives n s f p = forces_lasts n s f (moves n s p)

-- A function on the numbers below n, one to one, into the numbers below m: n is at most m, and if m is n,
-- each number below n is a value.
-- Assumes nothing.
use Rattle.std.specs.Prelude.{◌≡◌, refl, Bool, true, false, cond, ℕ, zero, suc, ◌≤◌, ◌<◌, eqb, ltb}
use Rattle.std.proofs.Common.{sym, ◌∙◌, arith, eqb-true, lt-ltb, le-ltb}
use Rattle.std.proofs.Math.Decide.{dec_lt}
use Rattle.std.proofs.lemmas.Bool.{eqb-false}
use Rattle.records.specs.Meaning.Bounded.{any}
use Rattle.records.specs.Laws.Tests.{by_test}
use Rattle.records.specs.Laws.Bounded.{cases_suc, any_at, any-not}

-- f on the numbers below n, with its value at n put where it is m: into the numbers below m
squeeze : (f : ℕ → ℕ) (n m j : ℕ) → ℕ
squeeze f n m j = cond (eqb (f j) m) (f n) (f j)

squeeze_low : (f : ℕ → ℕ) (n m j : ℕ) → f j < suc m → f n < suc m → (f j ≡ f n → ⊥) → squeeze f n m j < m
unfolding squeeze
squeeze_low f n m j h k ne = go (eqb (f j) m) refl
  where
    go : (b : Bool) → eqb (f j) m ≡ b → cond b (f n) (f j) < m
    go true e = elim (dec_lt (f n) m) [ yes q ↦ q | no q ↦ absurd (ne (omega (arith, eqb-true))) ]
    go false e = elim (dec_lt (f j) m) [ yes q ↦ q | no q ↦ absurd (eqb-false (f j) m e (omega arith)) ]

squeeze_inj : (f : ℕ → ℕ) (n m a b : ℕ) → (f a ≡ f b → a ≡ b) → (f a ≡ f n → ⊥) → (f b ≡ f n → ⊥)
    → squeeze f n m a ≡ squeeze f n m b → a ≡ b
unfolding squeeze
squeeze_inj f n m a b i na nb = go (eqb (f a) m) (eqb (f b) m) refl refl
  where
    go : (x y : Bool) → eqb (f a) m ≡ x → eqb (f b) m ≡ y → cond x (f n) (f a) ≡ cond y (f n) (f b) → a ≡ b
    go true true p q e = i (omega (arith, eqb-true))
    go true false p q e = absurd (nb (sym e))
    go false true p q e = absurd (na e)
    go false false p q e = i e

-- the pigeonhole principle
pub pigeonhole : (n m : ℕ) (f : ℕ → ℕ) → ((j : ℕ) → j < n → f j < m)
    → ((a b : ℕ) → a < n → b < n → f a ≡ f b → a ≡ b) → n ≤ m
pigeonhole zero m f l i = omega arith
pigeonhole (suc n) zero f l i = absurd (omega (arith, l n (omega arith)))
pigeonhole (suc n) (suc m) f l i =
    let apart : (j : ℕ) → j < n → f j ≡ f n → ⊥ = λ j h e. omega (arith, i j n (omega arith) (omega arith) e) in
    omega (
      arith,
      pigeonhole n m (squeeze f n m)
          (λ j h. squeeze_low f n m j (l j (omega arith)) (l n (omega arith)) (apart j h))
          (λ a b ha hb. squeeze_inj f n m a b (i a b (omega arith) (omega arith)) (apart a ha) (apart b hb)),
    )

-- a function on the numbers below n into themselves, one to one, takes each of them as a value
pub onto : (n : ℕ) (f : ℕ → ℕ) → ((j : ℕ) → j < n → f j < n) → ((a b : ℕ) → a < b → b < n → f a ≡ f b → ⊥)
    → (m : ℕ) → m < n → (j : ℕ) × (j < n) × (f j ≡ m)
onto n f low once m inside = by_test (any n (λ j. eqb (f j) m)) hit missed
  where
    hit : any n (λ j. eqb (f j) m) ≡ true → (j : ℕ) × (j < n) × (f j ≡ m)
    hit e = let r = any_at n (λ j. eqb (f j) m) e in (r.0, r.1, eqb-true _ _ r.2)

    same : (a b : ℕ) → a < n → b < n → f a ≡ f b → a ≡ b
    same a b ha hb e =
        elim (dec_lt a b) [
          | yes l ↦ absurd (once a b l hb e)
          | no l ↦ elim (dec_lt b a) [ yes k ↦ absurd (once b a k ha (sym e)) | no k ↦ omega arith ]
        ]

    -- else f, with m as its value at n, is one to one on the numbers below n + 1
    with_m : ℕ → ℕ
    with_m j = cond (ltb j n) (f j) m

    before : (j : ℕ) → j < n → with_m j ≡ f j
    before j h = rw (lt-ltb j n h)

    last : (j : ℕ) → j ≡ n → with_m j ≡ m
    last j e = rw (le-ltb j n (omega arith))

    missed : any n (λ j. eqb (f j) m) ≡ false → (j : ℕ) × (j < n) × (f j ≡ m)
    missed e =
        let none : (j : ℕ) → j < n → f j ≡ m → ⊥ = λ j h. eqb-false _ _ (any-not n (λ i. eqb (f i) m) e j h) in
        absurd (omega (
          arith,
          pigeonhole (suc n) n with_m
              (λ j h. cases_suc j n h (λ l. rw (before j l) (low j l)) (λ l. rw (last j l) inside))
              (λ a b ha hb s.
              cases_suc a n ha
              (λ la. cases_suc b n hb
              (λ lb. same a b la lb (sym (before a la) ∙ s ∙ before b lb))
              (λ lb. absurd (none a la (sym (before a la) ∙ s ∙ last b lb))))
              (λ la. cases_suc b n hb
              (λ lb. absurd (none b lb (sym (before b lb) ∙ sym s ∙ last a la)))
              (λ lb. omega arith))),
        ))

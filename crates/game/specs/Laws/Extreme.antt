-- Laws of the smallest, and what the largest and the smallest have in common.
-- Assumes nothing.
use Rattle.std.specs.Prelude.{◌≡◌, Bool, true, false, cond}
use Rattle.std.proofs.Math.Path.{refl, ap, ap₂}
use Rattle.std.proofs.Common.{◌∙◌, add-one}
use Prim.Native.Nat.{ℕ, zero, suc, ◌+◌, ◌*◌, ◌^◌, ◌≤◌, ◌<◌, min}
use Rattle.std.proofs.Math.Decide.{dec_lt}
use native.Mathlib.Omega.{arith}
use Rattle.records.specs.Meaning.Bounded.{any, sum}
use Rattle.records.specs.Laws.Bounded.{cases_suc, any_at, any-not, any_cong, sum_le, sum_cong, top_ge, top_cong}
use Rattle.records.specs.Laws.Tests.{by_test, both_ways}
use Rattle.records.specs.Model.Bounded.{top}
use Rattle.game.specs.Meaning.Ways.{Extremal, AtMost, AtLeast}
use Rattle.game.specs.Model.Extreme.{bottom, Pick, value_by}
use Rattle.game.specs.Model.Value.{value}
use Rattle.game.specs.Laws.Choice.{choose_leads, leads_top}
use Rattle.game.specs.Laws.Naming.{Names}

-- ---- the smallest

pub bottom_more : (n : ℕ) (p : ℕ → Bool) (f : ℕ → ℕ)
    → bottom (n + 1) p f ≡ cond (p n) (cond (any n p) (min (bottom n p f) (f n)) (f n)) (bottom n p f)
unfolding bottom
bottom_more n p f = rw add-one

bottom_cong : (n : ℕ) (p q : ℕ → Bool) (f g : ℕ → ℕ) → ((o : ℕ) → o < n → p o ≡ q o)
    → ((o : ℕ) → o < n → p o ≡ true → f o ≡ g o) → bottom n p f ≡ bottom n q g
unfolding bottom
bottom_cong zero p q f g e h = refl
bottom_cong (suc n) p q f g e h =
    rw (← e n (omega arith), ← any_cong n p q (λ o k. e o (omega arith)))
    (go (p n) (h n (omega arith)) (bottom_cong n p q f g (λ o k. e o (omega arith)) (λ o k. h o (omega arith))))
  where
    go : (b : Bool) → (b ≡ true → f n ≡ g n) → bottom n p f ≡ bottom n q g
        → cond b (cond (any n p) (min (bottom n p f) (f n)) (f n)) (bottom n p f)
        ≡ cond b (cond (any n p) (min (bottom n q g) (g n)) (g n)) (bottom n q g)
    go true k r = let x : f n ≡ g n = k refl in rw (x, r)
    go false k r = r

-- one that passes
abbrev Passes : ℕ → (ℕ → Bool) → ℕ → Type 0
Passes n p o = (o < n) × (p o ≡ true)

bottom_is : (n : ℕ) (p : ℕ → Bool) (f : ℕ → ℕ) (o : ℕ) → o < n → p o ≡ true → Extremal AtLeast (Passes n p) f (bottom n p f)
unfolding bottom
bottom_is zero p f o h e = absurd (omega arith)
bottom_is (suc n) p f o h e =
    by_test (p n)
    (λ y. by_test (any n p) (λ some. rw (y, some) (let r = any_at n p some in both y (bottom_is n p f r.0 r.1 r.2))) (λ none. rw (y, none) (alone y none)))
    (λ y. rw y (cases_suc o n h (λ k. before y (bottom_is n p f o k e)) (λ q. both_ways (rw q at e) y)))
  where
    both : p n ≡ true → Extremal AtLeast (Passes n p) f (bottom n p f) → Extremal AtLeast (Passes (suc n) p) f (min (bottom n p f) (f n))
    both y x =
        let below : (q : ℕ) → Passes (suc n) p q → min (bottom n p f) (f n) ≤ f q = λ q u.
        cases_suc q n u.0 (λ k. omega (arith, x.bound q (k, u.1))) (λ z. rw z (omega arith)) in
        elim (dec_lt (f n) (bottom n p f)) [
          | yes l ↦ record { at = n; among = (omega arith, y); reached = omega arith; bound = below }
          | no l ↦ record {
            at = x.at;
            among = (omega (arith, x.among.0), x.among.1);
            reached = omega (arith, x.reached);
            bound = below;
          }
        ]

    alone : p n ≡ true → any n p ≡ false → Extremal AtLeast (Passes (suc n) p) f (f n)
    alone y none =
        record {
          at = n;
          among = (omega arith, y);
          reached = refl;
          bound = λ q u. cases_suc q n u.0 (λ k. both_ways u.1 (any-not n p none q k)) (λ z. rw z (omega arith));
        }

    before : p n ≡ false → Extremal AtLeast (Passes n p) f (bottom n p f) → Extremal AtLeast (Passes (suc n) p) f (bottom n p f)
    before y x =
        record {
          at = x.at;
          among = (omega (arith, x.among.0), x.among.1);
          reached = x.reached;
          bound = λ q u. cases_suc q n u.0 (λ k. x.bound q (k, u.1)) (λ z. both_ways (rw z at u.1) y);
        }

-- where none passes
bottom_empty : (n : ℕ) (p : ℕ → Bool) (f : ℕ → ℕ) → ((o : ℕ) → o < n → p o ≡ false) → bottom n p f ≡ 0
unfolding bottom
bottom_empty zero p f e = refl
bottom_empty (suc n) p f e = rw (e n (omega arith)) (bottom_empty n p f (λ o k. e o (omega arith)))

-- no larger than the largest of what is nowhere smaller
pub bottom-top : (n : ℕ) (p : ℕ → Bool) (f g : ℕ → ℕ) → ((o : ℕ) → o < n → p o ≡ true → f o ≤ g o) → bottom n p f ≤ top n p g
bottom-top n p f g h = by_test (any n p) some none
  where
    some : any n p ≡ true → bottom n p f ≤ top n p g
    some y =
        let r = any_at n p y in
        omega (
          arith,
          (bottom_is n p f r.0 r.1 r.2).bound r.0 (r.1, r.2),
          h r.0 r.1 r.2,
          top_ge n p g r.0 r.1 r.2,
        )

    none : any n p ≡ false → bottom n p f ≤ top n p g
    none y = omega (arith, bottom_empty n p f (any-not n p y))

top_is : (n : ℕ) (p : ℕ → Bool) (f : ℕ → ℕ) (o : ℕ) → o < n → p o ≡ true → Extremal AtMost (Passes n p) f (top n p f)
top_is n p f o h e =
    let rank : ℕ → ℕ = λ q. 0 in
    let l = choose_leads p f rank n o h e in
    record { at = _; among = (l.low, l.pass); reached = leads_top p f rank n _ l; bound = λ q u. top_ge n p f q u.0 u.1 }

-- ---- what both are

-- R compares as the pick does: it is an order that sums keep, and what is picked of those that pass is extremal
pub record Picks (R : ℕ → ℕ → Type 0) (pick : Pick) : Type 0 where
  pub self : (a : ℕ) → R a a
  pub on : (a b c : ℕ) → R a b → R b c → R a c
  pub adds : (c a b : ℕ) → R a b → R (c + a) (c + b)
  pub sums : (n : ℕ) (f g : ℕ → ℕ) → ((i : ℕ) → i < n → R (f i) (g i)) → R (sum n f) (sum n g)
  pub cong : (n : ℕ) (p q : ℕ → Bool) (f g : ℕ → ℕ) → ((o : ℕ) → o < n → p o ≡ q o)
      → ((o : ℕ) → o < n → p o ≡ true → f o ≡ g o) → pick n p f ≡ pick n q g
  pub extremal : (n : ℕ) (p : ℕ → Bool) (f : ℕ → ℕ) (o : ℕ) → o < n → p o ≡ true
      → Extremal R (λ q. (q < n) × (p q ≡ true)) f (pick n p f)

pub largest : Picks AtMost top
largest =
    record {
      self = λ a. omega arith;
      on = λ a b c h k. omega arith;
      adds = λ c a b h. omega arith;
      sums = sum_le;
      cong = top_cong;
      extremal = top_is;
    }

pub smallest : Picks AtLeast bottom
smallest =
    record {
      self = λ a. omega arith;
      on = λ a b c h k. omega arith;
      adds = λ c a b h. omega arith;
      sums = λ n f g h. sum_le n g f h;
      cong = bottom_cong;
      extremal = bottom_is;
    }

-- ---- values by either

module _ (S : Type 0) (I O : ℕ) (step : S → ℕ → ℕ → S) (may : S → ℕ → ℕ → Bool) (reward : S → ℕ → ℕ → ℕ) where
  pub value_by_none : (pick : Pick) (s : S) → value_by pick S I O step may reward 0 s ≡ 0
  unfolding value_by
  value_by_none pick s = refl

  pub value_by_more : (pick : Pick) (p : ℕ) (s : S)
      → value_by pick S I O step may reward (suc p) s
      ≡ sum I (λ i. pick O (may s i) (λ o. reward s i o * I ^ p + value_by pick S I O step may reward p (step s i o)))
  unfolding value_by
  value_by_more pick p s = refl

  -- by the largest it is document 01's Best
  pub value_by-top : (p : ℕ) (s : S) → value_by top S I O step may reward p s ≡ value S I O step may reward p s
  unfolding value_by value
  value_by-top zero s = refl
  value_by-top (suc p) s =
      sum_cong I _ _ (λ i hi. top_cong O _ _ _ _ (λ o ho. refl) (λ o ho e.
      ap (λ (x : ℕ). reward s i o * I ^ p + x) (value_by-top p (step s i o))))

  -- the least is at most the most
  pub least_most : (p : ℕ) (s : S) → value_by bottom S I O step may reward p s ≤ value_by top S I O step may reward p s
  unfolding value_by
  least_most zero s = omega arith
  least_most (suc p) s =
      sum_le I _ _ (λ i hi. bottom-top O _ _ _ (λ o ho e. omega (arith, least_most p (step s i o))))

-- a name has the value of its state
module _
    {R : ℕ → ℕ → Type 0} {pick : Pick} (x : Picks R pick)
    (A S : Type 0) (I O : ℕ) (go : A → ℕ → ℕ → A) (step : S → ℕ → ℕ → S) (passes : A → ℕ → ℕ → Bool) (ok : S → ℕ → ℕ → Bool)
    (In : A → Type 0) (name : A → S) (names : Names A S I O go step passes ok In name)
    (rewardA : A → ℕ → ℕ → ℕ) (reward : S → ℕ → ℕ → ℕ)
    (earns : (a : A) (i o : ℕ) → In a → i < I → o < O → passes a i o ≡ true → rewardA a i o ≡ reward (name a) i o)
  where
    pub value_by_named : (p : ℕ) (a : A) → In a
        → value_by pick A I O go passes rewardA p a ≡ value_by pick S I O step ok reward p (name a)
    unfolding value_by
    value_by_named zero a g = refl
    value_by_named (suc p) a g =
        sum_cong I _ _ (λ i hi. x.cong O _ _ _ _ (λ o ho. names.tests a i o g hi ho) (λ o ho t.
        ap₂ (λ (r v : ℕ). r * I ^ p + v) (earns a i o g hi ho t)
        (value_by_named p (go a i o) (names.inside a i o g hi ho t)
        ∙ ap (value_by pick S I O step ok reward p) (names.lands a i o g hi ho t))))

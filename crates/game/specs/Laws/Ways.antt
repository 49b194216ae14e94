-- Values are what ways of answering earn: by the largest no way earns more and one earns it, by the smallest none earns less and one
-- earns that. Proved once for both.
-- Assumes nothing.
use Rattle.std.specs.Prelude.{◌≡◌, ◌↔◌, Bool, ◌&&◌}
use Rattle.std.proofs.Math.Path.{refl, ap}
use Rattle.std.proofs.Common.{◌∙◌, not-suc-le-zero, le_of_suc-le-suc, arith, eqb-true, eq-eqb}
use Rattle.std.proofs.Math.Bool.{true}
use mathlib.Core.List.{List, [], ◌∷◌}
use Prim.Native.Nat.{ℕ, zero, suc, ◌+◌, ◌*◌, ◌^◌, ◌<◌, suc-le-suc}
use Rattle.std.proofs.Math.Dec.{eqb}
use Rattle.std.proofs.Math.ListN.{replicate}
use Rattle.records.specs.Model.Bounded.{least}
use Rattle.records.specs.Laws.Bounded.{sum_cong}
use Rattle.records.specs.Laws.Tests.{by_test, and_left, and_right, and_both}
use Rattle.game.specs.Meaning.Words.{words, total}
use Rattle.game.specs.Meaning.Strategy.{Along, first, after}
use Rattle.game.specs.Meaning.Plans.{rewards}
use Rattle.game.specs.Meaning.Ways.{Extremal, Way, way_earns, Earned, Recursion}
use Rattle.game.specs.Model.Extreme.{Pick, value_by}
use Rattle.game.specs.Laws.Words.{some_word, word_cons, word_tail, total_cong, total-words, words-add}
use Rattle.game.specs.Laws.Strategy.{firstly, along_firstly}
use Rattle.game.specs.Laws.Extreme.{Picks, value_by_none, value_by_more}

-- where some number passes, so does the least
least-passes : (n : ℕ) (p : ℕ → Bool) (k : ℕ) → k < n → p k ≡ true → (least n p < n) × (p (least n p) ≡ true)
unfolding least
least-passes zero p k h e = absurd (not-suc-le-zero h)
least-passes (suc n) p zero h e = rw e (omega arith, e)
least-passes (suc n) p (suc k) h e =
    let r = least-passes n (λ q. p (suc q)) k (le_of_suc-le-suc h) e in
    by_test (p 0) (λ y. rw y (omega arith, y)) (λ y. rw y (suc-le-suc r.0, r.1))

module _ {R : ℕ → ℕ → Type 0} {pick : Pick} (x : Picks R pick)
    (S : Type 0) (I O : ℕ) (step : S → ℕ → ℕ → S) (may : S → ℕ → ℕ → Bool) (reward : S → ℕ → ℕ → ℕ)
  where
    abbrev worth : ℕ → S → ℕ
    worth = value_by pick S I O step may reward

    abbrev score : ℕ → S → ℕ → ℕ → ℕ
    score p s i o = reward s i o * I ^ p + worth p (step s i o)

    -- the lowest output whose score is picked, with p inputs to come
    picked : ℕ → S → ℕ → ℕ
    picked p s i = least O (λ o. may s i o && eqb (score p s i o) (pick O (may s i) (score p s i)))

    -- the way that takes it at every step
    follow : ℕ → S → List ℕ → ℕ
    follow zero s h = 0
    follow (suc p) s [] = 0
    follow (suc p) s (i ∷ h) = firstly (picked p s i) (follow p (step s i (picked p s i))) h

    -- where `may` decides `Ok` in the states of Good, which is never left
    module _
        (Ok : S → ℕ → ℕ → Type 0) (Good : S → Type 0)
        (live : (s : S) (i : ℕ) → Good s → i < I → (o : ℕ) × (o < O) × (may s i o ≡ true))
        (stays : (s : S) (i o : ℕ) → Good s → i < I → o < O → may s i o ≡ true → Good (step s i o))
        (decides : (s : S) (i o : ℕ) → Good s → i < I → o < O → (may s i o ≡ true) ↔ Ok s i o)
      where
        abbrev gains : (List ℕ → ℕ) → S → List ℕ → ℕ
        gains = rewards S I O step Ok reward

        abbrev WayFrom : ℕ → S → (List ℕ → ℕ) → Type 0
        WayFrom = Way S I O step Ok reward

        -- the first step of a way at an input, and the rest of it
        split : (p : ℕ) (s : S) (i : ℕ) (f : List ℕ → ℕ)
            → total (λ (w : List ℕ). gains f s (i ∷ w)) (words I p)
            ≡ reward s i (first i f) * I ^ p + total (gains (after i f) (step s i (first i f))) (words I p)
        split p s i f = words-add I (reward s i (first i f)) (gains (after i f) (step s i (first i f))) p

        -- no way is beyond the value
        way_bound : (p : ℕ) (f : List ℕ → ℕ) (s : S) → Good s → WayFrom p s f → R (way_earns S I O step Ok reward p s f) (worth p s)
        unfolding value_by words total
        way_bound zero f s g a = x.self 0
        way_bound (suc p) f s g a =
            rw (total-words I (gains f s) p)
            (x.sums I _ _ (λ i hi.
            let o : ℕ = first i f in
            let along : Along S O step Ok f s (i ∷ replicate p i) = a (i ∷ replicate p i) (word_cons I p i _ hi (some_word I p i hi)) in
            let pass : may s i o ≡ true = (decides s i o g hi along.0).1 along.1 in
            let rest = way_bound p (after i f) (step s i o) (stays s i o g hi along.0 pass)
            (λ w r. (a (i ∷ w) (word_cons I p i w hi r)).2) in
            rw (split p s i f)
            (x.on _ _ _ (x.adds (reward s i o * I ^ p) _ _ rest)
            ((x.extremal O (may s i) (score p s i) o along.0 pass).bound o (along.0, pass)))))

        -- what is picked may be given and has the score that is picked
        module _ (p : ℕ) (s : S) (i : ℕ) (g : Good s) (hi : i < I) where
          extreme : Extremal R (λ o. (o < O) × (may s i o ≡ true)) (score p s i) (pick O (may s i) (score p s i))
          extreme = let l = live s i g hi in x.extremal O (may s i) (score p s i) l.0 l.1 l.2

          found : (picked p s i < O)
              × ((may s i (picked p s i) && eqb (score p s i (picked p s i)) (pick O (may s i) (score p s i))) ≡ true)
          unfolding picked
          found =
              let e = extreme in
              least-passes O (λ o. may s i o && eqb (score p s i o) (pick O (may s i) (score p s i))) e.at e.among.0
              (and_both _ _ e.among.1 (eq-eqb _ _ e.reached))

          picked-may : may s i (picked p s i) ≡ true
          picked-may = and_left _ _ found.1

          picked-score : score p s i (picked p s i) ≡ pick O (may s i) (score p s i)
          picked-score = eqb-true _ _ (and_right (may s i (picked p s i)) _ found.1)

          picked_good : Good (step s i (picked p s i))
          picked_good = stays s i _ g hi found.0 picked-may

        follow_way : (p : ℕ) (s : S) → Good s → WayFrom p s (follow p s)
        unfolding follow
        follow_way zero s g [] r = tt
        follow_way zero s g (i ∷ w) r = absurd (omega (arith, r.long))
        follow_way (suc p) s g [] r = tt
        follow_way (suc p) s g (i ∷ w) r =
            let hi : i < I = r.below.0 in
            let o : ℕ = picked p s i in (
              (found p s i g hi).0,
              (decides s i o g hi (found p s i g hi).0).0 (picked-may p s i g hi),
              along_firstly S O step Ok o (follow p (step s i o)) (step s i o) w
                  (follow_way p (step s i o) (picked_good p s i g hi) w (word_tail I p i w r)),
            )

        gains-firstly : (o : ℕ) (f : List ℕ → ℕ) (s : S) (w : List ℕ) → gains (firstly o f) s w ≡ gains f s w
        gains-firstly o f s [] = refl
        gains-firstly o f s (i ∷ w) = refl

        follow_earns : (p : ℕ) (s : S) → Good s → way_earns S I O step Ok reward p s (follow p s) ≡ worth p s
        unfolding follow value_by words total
        follow_earns zero s g = refl
        follow_earns (suc p) s g =
            total-words I (gains (follow (suc p) s) s) p
            ∙ sum_cong I _ _ (λ i hi.
            let o : ℕ = picked p s i in
            let n : S = step s i o in
            split p s i (follow (suc p) s)
            ∙ ap (λ (y : ℕ). reward s i o * I ^ p + y)
            (total_cong _ _ (words I p) (gains-firstly o (follow p n) n) ∙ follow_earns p n (picked_good p s i g hi))
            ∙ picked-score p s i g hi)

        -- the value is what ways earn
        pub earned : (p : ℕ) (s : S) → Good s → Earned S I O step Ok reward R p s (worth p s)
        earned p s g =
            record {
              way = follow p s;
              taken = follow_way p s g;
              reached = follow_earns p s g;
              bound = λ f a. way_bound p f s g a;
            }

        -- and goes by document 01's recursion
        pub recursion : Recursion S I O step Ok reward R Good worth
        recursion =
            record {
              none = λ s g. value_by_none S I O step may reward pick s;
              more = λ p s g. (
                λ i. pick O (may s i) (score p s i),
                value_by_more S I O step may reward pick p s,
                λ i hi.
                    let e = extreme p s i g hi in
                    record {
                      at = e.at;
                      among = (e.among.0, (decides s i e.at g hi e.among.0).0 e.among.1);
                      reached = e.reached;
                      bound = λ o u. e.bound o (u.0, (decides s i o g hi u.0).1 u.1);
                    },
              );
            }

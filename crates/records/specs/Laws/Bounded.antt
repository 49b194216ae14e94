-- Laws of tests, sums, counts and largest scores over the numbers below a bound.
-- Assumes nothing.
use Rattle.std.specs.Prelude.{◌≡◌, refl, Bool, true, false, cond, ◌&&◌, ◌||◌, ℕ, zero, suc, ◌+◌, ◌*◌, ◌≤◌, ◌<◌, max}
use Rattle.std.proofs.Common.{ap, ap₂, suc-le-suc, suc-mul, not-suc-le-zero, le_of_suc-le-suc, add-one, arith}
use Rattle.std.proofs.Math.Decide.{dec_lt}
use Rattle.records.specs.Laws.Tests.{both_ways, by_test, and_left, and_right, and_both, and-not, or_cases, or_left, or_right}
use Rattle.records.specs.Meaning.Bounded.{all, any, Lowest, count, sum}
use Rattle.records.specs.Model.Bounded.{least, top}

-- a number below n + 1 is below n, or is n
pub cases_suc {ℓ} : {X : Type ℓ} (i n : ℕ) → i < suc n → (i < n → X) → (i ≡ n → X) → X
cases_suc i n h f g = elim (dec_lt i n) [ yes k ↦ f k | no k ↦ g (omega arith) ]

pub all-at : (n : ℕ) (p : ℕ → Bool) → all n p ≡ true → (i : ℕ) → i < n → p i ≡ true
unfolding all
all-at zero p e i h = absurd (omega arith)
all-at (suc n) p e i h =
    cases_suc i n h (all-at n p (and_left (all n p) (p n) e) i) (λ q. rw q (and_right (all n p) (p n) e))

pub all_of : (n : ℕ) (p : ℕ → Bool) → ((i : ℕ) → i < n → p i ≡ true) → all n p ≡ true
unfolding all
all_of zero p f = refl
all_of (suc n) p f = and_both (all n p) (p n) (all_of n p (λ i h. f i (omega arith))) (f n (omega arith))

pub all-not : (n : ℕ) (p : ℕ → Bool) → all n p ≡ false → (i : ℕ) × (i < n) × (p i ≡ false)
unfolding all
all-not zero p e = both_ways refl e
all-not (suc n) p e =
    and-not (all n p) (p n) e
    (λ q. let r : (i : ℕ) × (i < n) × (p i ≡ false) = all-not n p q in (r.0, omega arith, r.2))
    (λ q. (n, omega arith, q))

pub all_fails : (n : ℕ) (p : ℕ → Bool) (i : ℕ) → i < n → p i ≡ false → all n p ≡ false
all_fails n p i h q = go (all n p) refl
  where
    go : (b : Bool) → all n p ≡ b → b ≡ false
    go true e = both_ways (all-at n p e i h) q
    go false e = refl

pub all_cong : (n : ℕ) (p q : ℕ → Bool) → ((i : ℕ) → i < n → p i ≡ q i) → all n p ≡ all n q
unfolding all
all_cong zero p q e = refl
all_cong (suc n) p q e = ap₂ ◌&&◌ (all_cong n p q (λ i h. e i (omega arith))) (e n (omega arith))

-- as a loop that counts up finds it
pub all_none : (p : ℕ → Bool) → all 0 p ≡ true
unfolding all
all_none p = refl

pub all_more : (p : ℕ → Bool) (i : ℕ) → all i p ≡ true → p i ≡ true → all (i + 1) p ≡ true
unfolding all
all_more p i h e = rw (add-one, h, e)

pub any_at : (n : ℕ) (p : ℕ → Bool) → any n p ≡ true → (i : ℕ) × (i < n) × (p i ≡ true)
unfolding any
any_at zero p e = both_ways e refl
any_at (suc n) p e =
    or_cases (any n p) (p n) e
    (λ q. let r : (i : ℕ) × (i < n) × (p i ≡ true) = any_at n p q in (r.0, omega arith, r.2))
    (λ q. (n, omega arith, q))

pub any_of : (n : ℕ) (p : ℕ → Bool) (i : ℕ) → i < n → p i ≡ true → any n p ≡ true
unfolding any
any_of zero p i h q = absurd (omega arith)
any_of (suc n) p i h q =
    cases_suc i n h (λ k. or_left (any n p) (p n) (any_of n p i k q)) (λ e. or_right (any n p) (p n) (rw e at q))

pub any-not : (n : ℕ) (p : ℕ → Bool) → any n p ≡ false → (i : ℕ) → i < n → p i ≡ false
any-not n p e i h = go (p i) refl
  where
    go : (b : Bool) → p i ≡ b → b ≡ false
    go true q = both_ways (any_of n p i h q) e
    go false q = refl

pub any_none : (n : ℕ) (p : ℕ → Bool) → ((i : ℕ) → i < n → p i ≡ false) → any n p ≡ false
any_none n p f = go (any n p) refl
  where
    go : (b : Bool) → any n p ≡ b → b ≡ false
    go true e = let r = any_at n p e in both_ways r.2 (f r.0 r.1)
    go false e = refl

pub any_cong : (n : ℕ) (p q : ℕ → Bool) → ((i : ℕ) → i < n → p i ≡ q i) → any n p ≡ any n q
unfolding any
any_cong zero p q e = refl
any_cong (suc n) p q e = ap₂ ◌||◌ (any_cong n p q (λ i h. e i (omega arith))) (e n (omega arith))

pub least_hit : (n : ℕ) (p : ℕ → Bool) (k : ℕ) → k < n → ((j : ℕ) → j < k → p j ≡ false) → p k ≡ true → least n p ≡ k
unfolding least
least_hit zero p k l h e = absurd (not-suc-le-zero l)
least_hit (suc n) p zero l h e = rw e
least_hit (suc n) p (suc k) l h e =
    rw (h 0 (omega arith))
    (ap suc (least_hit n (λ j. p (suc j)) k (le_of_suc-le-suc l) (λ j m. h (suc j) (suc-le-suc m)) e))

pub least_none : (n : ℕ) (p : ℕ → Bool) → ((j : ℕ) → j < n → p j ≡ false) → least n p ≡ n
unfolding least
least_none zero p h = refl
least_none (suc n) p h = rw (h 0 (omega arith)) (ap suc (least_none n (λ j. p (suc j)) (λ j m. h (suc j) (suc-le-suc m))))

first_hit : (n : ℕ) (p : ℕ → Bool) → p 0 ≡ true → Lowest p (suc n) 0
first_hit n p e = record { low = omega arith; hit = e; none = λ j l. absurd (omega arith) }

later_hit : (n : ℕ) (p : ℕ → Bool) {m : ℕ} → p 0 ≡ false → Lowest (λ k. p (suc k)) n m → Lowest p (suc n) (suc m)
later_hit n p {m} e rest = record { low = suc-le-suc rest.low; hit = rest.hit; none = none }
  where
    none : (j : ℕ) → j < suc m → p j ≡ false
    none zero l = e
    none (suc j) l = rest.none j (le_of_suc-le-suc l)

-- it is the lowest of those that pass, if any does
pub least_lowest : (n : ℕ) (p : ℕ → Bool) (i : ℕ) → i < n → p i ≡ true → Lowest p n (least n p)
unfolding least
least_lowest zero p i h e = absurd (omega arith)
least_lowest (suc n) p zero h e = rw e (first_hit n p e)
least_lowest (suc n) p (suc i) h e =
    by_test (p 0) (λ y. rw y (first_hit n p y))
    (λ y. rw y (later_hit n p y (least_lowest n (λ k. p (suc k)) i (le_of_suc-le-suc h) e)))

pub some_lowest : (n : ℕ) (p : ℕ → Bool) → any n p ≡ true → Lowest p n (least n p)
some_lowest n p e = let r = any_at n p e in least_lowest n p r.0 r.1 r.2

-- and the only lowest
pub lowest_least : {n : ℕ} {p : ℕ → Bool} {m : ℕ} → Lowest p n m → least n p ≡ m
lowest_least {n} {p} {m} l = least_hit n p m l.low l.none l.hit

pub least_cong : (n : ℕ) (p q : ℕ → Bool) → ((i : ℕ) → i < n → p i ≡ q i) → least n p ≡ least n q
unfolding least
least_cong zero p q e = refl
least_cong (suc n) p q e =
    rw (e 0 (omega arith), least_cong n (λ k. p (suc k)) (λ k. q (suc k)) (λ k h. e (suc k) (suc-le-suc h)))

pub count_none : (p : ℕ → Bool) → count 0 p ≡ 0
unfolding count
count_none p = refl

pub count_more : (n : ℕ) (p : ℕ → Bool) → count (n + 1) p ≡ count n p + cond (p n) 1 0
unfolding count
count_more n p = rw add-one

flag_le : (a b : Bool) → (a ≡ true → b ≡ true) → cond a 1 0 ≤ cond b 1 0
flag_le true b f = rw (f refl) (omega arith)
flag_le false b f = omega arith

pub count_le : (n : ℕ) (p : ℕ → Bool) → count n p ≤ n
unfolding count
count_le zero p = omega arith
count_le (suc n) p = omega (arith, count_le n p, flag_le (p n) true (λ e. refl))

pub count_cong : (n : ℕ) (p q : ℕ → Bool) → ((i : ℕ) → i < n → p i ≡ q i) → count n p ≡ count n q
unfolding count
count_cong zero p q e = refl
count_cong (suc n) p q e = rw (count_cong n p q (λ i h. e i (omega arith)), e n (omega arith))

-- a test that always passes
pub count-all : (n : ℕ) (p : ℕ → Bool) → ((i : ℕ) → i < n → p i ≡ true) → count n p ≡ n
unfolding count
count-all zero p e = refl
count-all (suc n) p e = rw (count-all n p (λ i h. e i (omega arith)), e n (omega arith)) (add-one n)

-- a test that passes less often counts no more
pub count_mono : (n : ℕ) (p q : ℕ → Bool) → ((i : ℕ) → i < n → p i ≡ true → q i ≡ true) → count n p ≤ count n q
unfolding count
count_mono zero p q f = omega arith
count_mono (suc n) p q f =
    omega (arith, count_mono n p q (λ i h. f i (omega arith)), flag_le (p n) (q n) (f n (omega arith)))

-- and if it counts no less, it passes wherever the other does
pub count_tight : (n : ℕ) (p q : ℕ → Bool) → ((i : ℕ) → i < n → p i ≡ true → q i ≡ true) → count n q ≤ count n p
    → (i : ℕ) → i < n → q i ≡ true → p i ≡ true
unfolding count
count_tight zero p q f h i k e = absurd (omega arith)
count_tight (suc n) p q f h i k e =
    let low : count n p ≤ count n q = count_mono n p q (λ j u. f j (omega arith)) in
    let here : cond (p n) 1 0 ≤ cond (q n) 1 0 = flag_le (p n) (q n) (f n (omega arith)) in
    cases_suc i n k (λ l. count_tight n p q (λ j u. f j (omega arith)) (omega arith) i l e)
    (λ m. rw m (top (p n) (q n) (rw m at e) (omega arith)))
  where
    top : (a b : Bool) → b ≡ true → cond b 1 0 ≤ cond a 1 0 → a ≡ true
    top true b u v = refl
    top false b u v = absurd (let w : 1 ≤ 0 = rw u at v in omega arith)

pub sum_none : (f : ℕ → ℕ) → sum 0 f ≡ 0
unfolding sum
sum_none f = refl

pub sum_more : (n : ℕ) (f : ℕ → ℕ) → sum (n + 1) f ≡ sum n f + f n
unfolding sum
sum_more n f = rw add-one

pub sum_cong : (n : ℕ) (f g : ℕ → ℕ) → ((i : ℕ) → i < n → f i ≡ g i) → sum n f ≡ sum n g
unfolding sum
sum_cong zero f g e = refl
sum_cong (suc n) f g e = ap₂ ◌+◌ (sum_cong n f g (λ i h. e i (omega arith))) (e n (omega arith))

pub sum_le : (n : ℕ) (f g : ℕ → ℕ) → ((i : ℕ) → i < n → f i ≤ g i) → sum n f ≤ sum n g
unfolding sum
sum_le zero f g e = omega arith
sum_le (suc n) f g e = omega (arith, sum_le n f g (λ i h. e i (omega arith)), e n (omega arith))

-- nothing to add
pub sum-zero : (n : ℕ) (f : ℕ → ℕ) → ((i : ℕ) → i < n → f i ≡ 0) → sum n f ≡ 0
unfolding sum
sum-zero zero f e = refl
sum-zero (suc n) f e = rw (sum-zero n f (λ i h. e i (omega arith)), e n (omega arith))

-- each of n terms is at most c
pub sum_most : (n c : ℕ) (f : ℕ → ℕ) → ((i : ℕ) → i < n → f i ≤ c) → sum n f ≤ n * c
unfolding sum
sum_most zero c f e = omega arith
sum_most (suc n) c f e = omega (arith, sum_most n c f (λ i h. e i (omega arith)), e n (omega arith), suc-mul n c)

-- a constant in each term
pub sum-add : (n c : ℕ) (f : ℕ → ℕ) → sum n (λ i. c + f i) ≡ n * c + sum n f
unfolding sum
sum-add zero c f = omega arith
sum-add (suc n) c f = omega (arith, sum-add n c f, suc-mul n c)

pub top_none : (p : ℕ → Bool) (f : ℕ → ℕ) → top 0 p f ≡ 0
unfolding top
top_none p f = refl

pub top_more : (n : ℕ) (p : ℕ → Bool) (f : ℕ → ℕ) → top (n + 1) p f ≡ cond (p n) (max (top n p f) (f n)) (top n p f)
unfolding top
top_more n p f = rw add-one

pub top_ge : (n : ℕ) (p : ℕ → Bool) (f : ℕ → ℕ) (o : ℕ) → o < n → p o ≡ true → f o ≤ top n p f
unfolding top
top_ge zero p f o h e = absurd (omega arith)
top_ge (suc n) p f o h e =
    cases_suc o n h
    (λ k. omega (arith, top_ge n p f o k e, grows (p n)))
    (λ q. rw (q, rw q at e) (omega arith))
  where
    grows : (b : Bool) → top n p f ≤ cond b (max (top n p f) (f n)) (top n p f)
    grows true = omega arith
    grows false = omega arith

pub top_le : (n : ℕ) (p : ℕ → Bool) (f : ℕ → ℕ) (c : ℕ) → ((o : ℕ) → o < n → p o ≡ true → f o ≤ c) → top n p f ≤ c
unfolding top
top_le zero p f c h = omega arith
top_le (suc n) p f c h = go (p n) refl (top_le n p f c (λ o k. h o (omega arith)))
  where
    go : (b : Bool) → p n ≡ b → top n p f ≤ c → cond b (max (top n p f) (f n)) (top n p f) ≤ c
    go true e k = omega (arith, h n (omega arith) e)
    go false e k = k

pub top_cong : (n : ℕ) (p q : ℕ → Bool) (f g : ℕ → ℕ) → ((o : ℕ) → o < n → p o ≡ q o)
    → ((o : ℕ) → o < n → p o ≡ true → f o ≡ g o) → top n p f ≡ top n q g
unfolding top
top_cong zero p q f g e h = refl
top_cong (suc n) p q f g e h =
    rw (← e n (omega arith))
    (go (p n) (h n (omega arith)) (top_cong n p q f g (λ o k. e o (omega arith)) (λ o k. h o (omega arith))))
  where
    go : (b : Bool) → (b ≡ true → f n ≡ g n) → top n p f ≡ top n q g
        → cond b (max (top n p f) (f n)) (top n p f) ≡ cond b (max (top n q g) (g n)) (top n q g)
    go true k r = let x : f n ≡ g n = k refl in cc
    go false k r = r

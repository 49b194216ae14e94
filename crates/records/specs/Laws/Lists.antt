-- Laws of lists by index: tables of a function, fronts that a loop replaces, blocks, stores and parts.
-- Assumes nothing.
use Rattle.std.specs.Prelude.{◌≡◌, refl, List, [], ◌∷◌, ◌++◌, get_or, set, take, drop, replicate}
use Rattle.std.proofs.Common.{ap, ap₂, sym, ◌∙◌, subst, append-nil, append_assoc, add-one, ext_get_or, get_or-append-add, get_or-set_other, length-take-le}
use Prim.Native.Nat.{ℕ, zero, suc, ◌+◌, ◌-◌, ◌*◌, ◌≤◌, ◌<◌, suc-le-suc}
use native.Mathlib.Nat.{not-suc-le-zero, le_of_suc-le-suc, add-suc, add-zero, add_assoc, suc-add, suc-mul, zero-add}
use Rattle.std.proofs.Math.Decide.{dec_lt}
use native.Mathlib.Omega.{arith}
use Rattle.std.proofs.Math.ListN.{length, length-append, get_or-append}
use Rattle.std.proofs.lemmas.List.Edits.{sets, sets-eq}
use Rattle.records.specs.Laws.Bounded.{cases_suc}
use Rattle.records.specs.Meaning.Lists.{tab, cat}
use Rattle.records.specs.Model.Lists.{put, part}

pub length-tab {ℓ} : {A : Type ℓ} (n : ℕ) (f : ℕ → A) → length (tab n f) ≡ n
unfolding tab
length-tab zero f = refl
length-tab (suc n) f = ap suc (length-tab n (λ k. f (suc k)))

pub get_d_tab {ℓ} : {A : Type ℓ} (n : ℕ) (f : ℕ → A) (k : ℕ) (d : A) → k < n → get_or (tab n f) k d ≡ f k
unfolding tab
get_d_tab zero f k d l = absurd (not-suc-le-zero l)
get_d_tab (suc n) f zero d l = refl
get_d_tab (suc n) f (suc k) d l = get_d_tab n (λ j. f (suc j)) k d (le_of_suc-le-suc l)

-- a list of n that has f k at each k is the table of f
pub tab_eq {ℓ} : {A : Type ℓ} (d : A) (n : ℕ) (f : ℕ → A) (l : List A) → length l ≡ n
    → ((k : ℕ) → k < n → get_or l k d ≡ f k) → l ≡ tab n f
tab_eq d n f l e h =
    ext_get_or d l (tab n f) (e ∙ sym (length-tab n f))
    (λ k lt. let m : k < n = omega arith in h k m ∙ sym (get_d_tab n f k d m))

-- a list is the table of its elements
pub tab_self {ℓ} : {A : Type ℓ} (d : A) (l : List A) → l ≡ tab (length l) (λ k. get_or l k d)
tab_self d l = tab_eq d (length l) _ l refl (λ k h. refl)

pub tab_ext {ℓ} : {A : Type ℓ} (n : ℕ) (f g : ℕ → A) → ((k : ℕ) → k < n → f k ≡ g k) → tab n f ≡ tab n g
unfolding tab
tab_ext zero f g h = refl
tab_ext (suc n) f g h =
    rw (h 0 (omega arith), tab_ext n (λ k. f (suc k)) (λ k. g (suc k)) (λ k l. h (suc k) (suc-le-suc l)))

tab-suc {ℓ} : {A : Type ℓ} (n : ℕ) (f : ℕ → A) → tab (suc n) f ≡ tab n f ++ (f n ∷ [])
unfolding tab
tab-suc zero f = refl
tab-suc {A} (suc n) f = ap (λ (l : List A). f 0 ∷ l) (tab-suc n (λ k. f (suc k)))

pub tab_snoc {ℓ} : {A : Type ℓ} (n : ℕ) (f : ℕ → A) → tab (n + 1) f ≡ tab n f ++ (f n ∷ [])
tab_snoc n f = rw add-one (tab-suc n f)

pub put_none {ℓ} : {A : Type ℓ} (d : List A) (f : ℕ → A) → put d 0 f ≡ d
unfolding put
put_none [] f = refl
put_none (x ∷ d) f = refl

put-suc {ℓ} : {A : Type ℓ} (d : List A) (i : ℕ) (f : ℕ → A) → set (put d i f) i (f i) ≡ put d (suc i) f
unfolding put
put-suc {A} [] i f = refl
put-suc {A} (x ∷ d) zero f = ap (λ (t : List A). f 0 ∷ t) (sym (put_none d (λ k. f (suc k))))
put-suc {A} (x ∷ d) (suc i) f = ap (λ (t : List A). f 0 ∷ t) (put-suc d i (λ k. f (suc k)))

pub put_more {ℓ} : {A : Type ℓ} (d : List A) (i : ℕ) (f : ℕ → A) → set (put d i f) i (f i) ≡ put d (i + 1) f
put_more d i f = rw add-one (put-suc d i f)

-- one more element of a front
pub put_next {ℓ} : {A : Type ℓ} (d : List A) (i : ℕ) (f : ℕ → A) {now : List A} {x : A} → now ≡ put d i f → x ≡ f i
    → set now i x ≡ put d (i + 1) f
put_next {A} d i f e g = ap₂ (λ (l : List A) (y : A). set l i y) e g ∙ put_more d i f

pub length-put {ℓ} : {A : Type ℓ} (d : List A) (n : ℕ) (f : ℕ → A) → length (put d n f) ≡ length d
unfolding put
length-put [] n f = refl
length-put (x ∷ d) zero f = refl
length-put (x ∷ d) (suc n) f = ap suc (length-put d n (λ k. f (suc k)))

pub get_d_put_rest {ℓ} : {A : Type ℓ} (d : List A) (n : ℕ) (f : ℕ → A) (k : ℕ) (e : A) → n ≤ k → get_or (put d n f) k e ≡ get_or d k e
unfolding put
get_d_put_rest [] n f k e l = refl
get_d_put_rest (x ∷ d) zero f k e l = refl
get_d_put_rest (x ∷ d) (suc n) f zero e l = absurd (not-suc-le-zero l)
get_d_put_rest (x ∷ d) (suc n) f (suc k) e l = get_d_put_rest d n (λ j. f (suc j)) k e (le_of_suc-le-suc l)

pub get_d_put-front {ℓ} : {A : Type ℓ} (d : List A) (n : ℕ) (f : ℕ → A) (k : ℕ) (e : A) → k < n → k < length d
    → get_or (put d n f) k e ≡ f k
unfolding put
get_d_put-front [] n f k e l m = absurd (not-suc-le-zero m)
get_d_put-front (x ∷ d) zero f k e l m = absurd (not-suc-le-zero l)
get_d_put-front (x ∷ d) (suc n) f zero e l m = refl
get_d_put-front (x ∷ d) (suc n) f (suc k) e l m =
    get_d_put-front d n (λ j. f (suc j)) k e (le_of_suc-le-suc l) (le_of_suc-le-suc m)

-- the same element put everywhere
pub put-replicate : (d : List ℕ) (x : ℕ) → put d (length d) (λ k. x) ≡ replicate (length d) x
unfolding put
put-replicate [] x = refl
put-replicate (y ∷ d) x = ap (λ (t : List ℕ). x ∷ t) (put-replicate d x)

-- the elements put back change nothing
pub put_self : (d : List ℕ) (n : ℕ) → put d n (λ k. get_or d k 0) ≡ d
unfolding put
put_self [] n = refl
put_self (x ∷ d) zero = refl
put_self (x ∷ d) (suc n) = ap (λ (t : List ℕ). x ∷ t) (put_self d n)

-- what is put twice is what was put last
pub put-put {ℓ} : {A : Type ℓ} (d : List A) (n : ℕ) (f g : ℕ → A) → put (put d n f) n g ≡ put d n g
unfolding put
put-put [] n f g = refl
put-put (x ∷ d) zero f g = refl
put-put {A} (x ∷ d) (suc n) f g = ap (λ (t : List A). g 0 ∷ t) (put-put d n (λ k. f (suc k)) (λ k. g (suc k)))

-- only what f says below n counts
pub put_ext {ℓ} : {A : Type ℓ} (d : List A) (n : ℕ) (f g : ℕ → A) → ((k : ℕ) → k < n → f k ≡ g k) → put d n f ≡ put d n g
unfolding put
put_ext [] n f g h = refl
put_ext (x ∷ d) zero f g h = refl
put_ext {A} (x ∷ d) (suc n) f g h =
    ap₂ (λ (a : A) (t : List A). a ∷ t) (h 0 (omega arith))
    (put_ext d n (λ k. f (suc k)) (λ k. g (suc k)) (λ k l. h (suc k) (suc-le-suc l)))

-- a front of one element, as it is when a part of the list is filled
pub put-fill {ℓ} : {A : Type ℓ} (d : List A) (n : ℕ) (x : A) → n ≤ length d → replicate n x ++ drop n d ≡ put d n (λ k. x)
unfolding put
put-fill [] zero x h = refl
put-fill [] (suc n) x h = absurd (omega arith)
put-fill (y ∷ d) zero x h = refl
put-fill {A} (y ∷ d) (suc n) x h = ap (λ (t : List A). x ∷ t) (put-fill d n x (le_of_suc-le-suc h))

-- a front that is the whole list
pub put-tab : (d : List ℕ) (n : ℕ) (f : ℕ → ℕ) → length d ≡ n → put d n f ≡ tab n f
put-tab d n f e = tab_eq 0 n f (put d n f) (length-put d n f ∙ e) (λ k h. get_d_put-front d n f k 0 h (omega arith))

pub cat_none {ℓ} : {A : Type ℓ} (f : ℕ → List A) → cat 0 f ≡ []
unfolding cat
cat_none f = refl

pub cat_more {ℓ} : {A : Type ℓ} (n : ℕ) (f : ℕ → List A) → cat (n + 1) f ≡ cat n f ++ f n
unfolding cat
cat_more n f = rw add-one

pub cat_ext {ℓ} : {A : Type ℓ} (n : ℕ) (f g : ℕ → List A) → ((k : ℕ) → k < n → f k ≡ g k) → cat n f ≡ cat n g
unfolding cat
cat_ext zero f g h = refl
cat_ext (suc n) f g h = rw (cat_ext n f g (λ k l. h k (omega arith)), h n (omega arith))

-- blocks of one length c
module _ {ℓ} {A : Type ℓ} (c : ℕ) where
  pub length-cat : (n : ℕ) (f : ℕ → List A) → ((k : ℕ) → k < n → length (f k) ≡ c) → length (cat n f) ≡ n * c
  unfolding cat
  length-cat zero f e = omega arith
  length-cat (suc n) f e =
      omega (arith, length-append (cat n f) (f n), length-cat n f (λ k l. e k (omega arith)), e n (omega arith), suc-mul n c)

  -- the element j of block k
  pub get_d_cat : (n : ℕ) (f : ℕ → List A) → ((k : ℕ) → k < n → length (f k) ≡ c)
      → (k j : ℕ) (d : A) → k < n → j < c → get_or (cat n f) (k * c + j) d ≡ get_or (f k) j d
  unfolding cat
  get_d_cat zero f e k j d h l = absurd (omega arith)
  get_d_cat (suc n) f e k j d h l =
      let size : length (cat n f) ≡ n * c = length-cat n f (λ i u. e i (omega arith)) in
      cases_suc k n h
      (λ u.
      get_or-append (cat n f) (f n) d (k * c + j) (rw size (lib.Arith.digits_lt u l))
      ∙ get_d_cat n f (λ i v. e i (omega arith)) k j d u l)
      (λ u. rw (u, ← size) (get_or-append-add (cat n f) (f n) j d))

-- what holds of every element of every block
pub cat_each {ℓ} : {A : Type ℓ} (P : A → Type 0) (d : A) (n : ℕ) (f : ℕ → List A)
    → ((q i : ℕ) → q < n → i < length (f q) → P (get_or (f q) i d)) → (k : ℕ) → k < length (cat n f) → P (get_or (cat n f) k d)
unfolding cat
cat_each P d zero f h k l = absurd (omega arith)
cat_each P d (suc n) f h k l =
    elim (dec_lt k (length (cat n f))) [
      | yes u ↦ rw (get_or-append (cat n f) (f n) d k u) (cat_each P d n f (λ q i v. h q i (omega arith)) k u)
      | no u ↦
          let at : length (cat n f) + (k - length (cat n f)) ≡ k = omega arith in
          subst (λ x. P (get_or (cat n f ++ f n) x d)) at
          (rw (get_or-append-add (cat n f) (f n) (k - length (cat n f)) d)
          (h n (k - length (cat n f)) (omega arith) (omega (arith, length-append (cat n f) (f n)))))
    ]

-- ---- stores one after the other: `sets d at xs` is d with xs stored from index at on

pub sets_append {ℓ} : {A : Type ℓ} (d : List A) (at : ℕ) (xs ys : List A) → sets (sets d at xs) (at + length xs) ys ≡ sets d at (xs ++ ys)
sets_append d at [] ys = rw add-zero
sets_append d at (x ∷ xs) ys = rw (add-suc, ← native.Mathlib.Nat.suc-add) (sets_append (set d at x) (suc at) xs ys)

-- some, one more, and the rest
pub sets_between {ℓ} : {A : Type ℓ} (d : List A) (at : ℕ) (xs : List A) (x : A) (ys : List A)
    → sets (set (sets d at xs) (at + length xs) x) (at + length xs + 1) ys ≡ sets d at (xs ++ (x ∷ ys))
sets_between d at xs x ys = rw add-one (sets_append d at xs (x ∷ ys))

pub sets_one {ℓ} : {A : Type ℓ} (d : List A) (at : ℕ) (x : A) → set d at x ≡ sets d at (x ∷ [])
sets_one d at x = refl

-- from index 0: the new elements, then the old rest
pub sets_front {ℓ} : {A : Type ℓ} (d xs : List A) → length xs ≤ length d → sets d 0 xs ≡ xs ++ drop (length xs) d
sets_front d xs h = sets-eq xs d 0 (omega arith) ∙ rw zero-add

-- nothing before them changes
pub get_d_sets_before {ℓ} : {A : Type ℓ} (d : List A) (at : ℕ) (xs : List A) (i : ℕ) (e : A) → i < at
    → get_or (sets d at xs) i e ≡ get_or d i e
get_d_sets_before d at [] i e h = refl
get_d_sets_before d at (x ∷ xs) i e h =
    get_d_sets_before (set d at x) (suc at) xs i e (omega arith) ∙ get_or-set_other d at i x e (λ q. omega arith)

-- and they stand there
pub get_d_sets_at {ℓ} : {A : Type ℓ} (d : List A) (at : ℕ) (xs : List A) (j : ℕ) (e : A) → at + length xs ≤ length d → j < length xs
    → get_or (sets d at xs) (at + j) e ≡ get_or xs j e
get_d_sets_at {A} d at xs j e room h =
    let rest : List A = xs ++ drop (at + length xs) d in
    let size : length (take at d) ≡ at = length-take-le at d (omega arith) in
    ap (λ (l : List A). get_or l (at + j) e) (sets-eq xs d at room ∙ append_assoc (take at d) xs (drop (at + length xs) d))
    ∙ ap (λ (n : ℕ). get_or (take at d ++ rest) (n + j) e) (sym size)
    ∙ get_or-append-add (take at d) rest j e
    ∙ get_or-append xs (drop (at + length xs) d) e j h

-- one more element of a table
pub sets_more {ℓ} : {A : Type ℓ} (d : List A) (at n : ℕ) (f : ℕ → A) → set (sets d at (tab n f)) (at + n) (f n) ≡ sets d at (tab (n + 1) f)
sets_more d at n f =
    ap (λ (m : ℕ). set (sets d at (tab n f)) (at + m) (f n)) (sym (length-tab n f))
    ∙ sets_append d at (tab n f) (f n ∷ [])
    ∙ ap (sets d at) (sym (tab_snoc n f))

-- ---- a stretch of a list

tab-add {ℓ} : {A : Type ℓ} (n m : ℕ) (f : ℕ → A) → tab (n + m) f ≡ tab n f ++ tab m (λ k. f (n + k))
unfolding tab
tab-add zero m f = rw zero-add (tab_ext m f (λ k. f (0 + k)) (λ k h. rw zero-add))
tab-add (suc n) m f =
    rw suc-add
    (rw (tab-add n m (λ k. f (suc k)))
    (ap (λ (l : List _). f 0 ∷ (tab n (λ k. f (suc k)) ++ l)) (tab_ext m (λ k. f (suc (n + k))) (λ k. f (suc n + k)) (λ k h. rw suc-add))))

-- a stretch in two
pub part-add : (s : List ℕ) (at n m : ℕ) → part s at (n + m) ≡ part s at n ++ part s (at + n) m
unfolding part
part-add s at n m =
    tab-add n m (λ k. get_or s (at + k) 0)
    ∙ ap (λ (l : List ℕ). tab n (λ k. get_or s (at + k) 0) ++ l)
    (tab_ext m (λ k. get_or s (at + (n + k)) 0) (λ k. get_or s (at + n + k) 0) (λ k h. rw add_assoc))

-- the whole list
pub part-whole : (s : List ℕ) → part s 0 (length s) ≡ s
unfolding part
part-whole s = sym (tab_eq 0 (length s) (λ k. get_or s (0 + k) 0) s refl (λ k h. rw zero-add))

-- a stretch in blocks of one length
pub part-cat : (s : List ℕ) (at n w : ℕ) → part s at (n * w) ≡ cat n (λ q. part s (at + q * w) w)
unfolding cat part tab
part-cat s at zero w = rw (native.Mathlib.Nat.zero-mul)
part-cat s at (suc n) w = rw (suc-mul, part-add s at (n * w) w, part-cat s at n w)

-- block j, and what stands before and after it
pub cat-at {ℓ} : {A : Type ℓ} (n : ℕ) (f : ℕ → List A) (j : ℕ) → j < n → (rest : List A) × (cat n f ≡ cat j f ++ (f j ++ rest))
unfolding cat
cat-at zero f j h = absurd (omega arith)
cat-at {A} (suc n) f j h =
    cases_suc j n h
    (λ l. let r : (rest : List A) × (cat n f ≡ cat j f ++ (f j ++ rest)) = cat-at n f j l in
    (r.0 ++ f n, rw r.1 (simp append_assoc)))
    (λ e. ([], rw (e, append-nil)))

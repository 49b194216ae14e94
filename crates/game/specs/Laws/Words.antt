-- Laws of words: the list of all words of a length has each of them once, and how a sum over it comes apart.
-- Assumes nothing.
use Rattle.std.specs.Prelude.{◌≡◌, ◌↔◌, length, replicate}
use Rattle.std.proofs.Math.Path.{refl, sym, ap, ap₂}
use Rattle.std.proofs.Common.{◌∙◌, pow-suc, mod-lt, div-lt_iff_lt-mul}
use mathlib.Core.List.{List, [], ◌∷◌, ◌++◌, map}
use Prim.Native.Nat.{ℕ, zero, suc, ◌+◌, ◌*◌, ◌/◌, ◌%◌, ◌^◌, ◌<◌}
use Rattle.std.proofs.Math.Nat.{pow-zero, mul_comm, mul-suc, mul-zero, div-add-mod}
use native.Mathlib.Omega.{arith}
use Rattle.std.proofs.Math.Arith.{digits_lt}
use Rattle.std.proofs.Math.ListN.{get_or, length-map}
use Rattle.std.proofs.lemmas.List.{length-replicate}
use Rattle.records.specs.Meaning.Bounded.{sum}
use Rattle.records.specs.Laws.Bounded.{sum_cong}
use Rattle.records.specs.Meaning.Lists.{cat}
use Rattle.records.specs.Laws.Lists.{length-cat, get_d_cat}
use Rattle.game.specs.Meaning.Words.{Below, Word, words, total}

-- ---- single words

-- where there is a letter, there is a word of every length
pub some_word : (I n i : ℕ) → i < I → Word I n (replicate n i)
some_word I n i h = record { long = length-replicate n i; below = letters n }
  where
    letters : (m : ℕ) → Below I (replicate m i)
    letters zero = tt
    letters (suc m) = (h, letters m)

-- a word with one letter before it
pub word_cons : (I n i : ℕ) (w : List ℕ) → i < I → Word I n w → Word I (suc n) (i ∷ w)
word_cons I n i w h r = record { long = ap suc r.long; below = (h, r.below) }

-- a word without its first letter
pub word_tail : (I n i : ℕ) (w : List ℕ) → Word I (suc n) (i ∷ w) → Word I n w
word_tail I n i w r = record { long = omega (arith, r.long); below = r.below.1 }

-- ---- sums over a list

module _ {A : Type 0} where
  -- equal terms have equal sums
  pub total_cong : (f g : A → ℕ) (xs : List A) → ((x : A) → f x ≡ g x) → total f xs ≡ total g xs
  unfolding total
  total_cong f g [] e = refl
  total_cong f g (x ∷ xs) e = ap₂ ◌+◌ (e x) (total_cong f g xs e)

  total_append : (g : A → ℕ) (xs ys : List A) → total g (xs ++ ys) ≡ total g xs + total g ys
  unfolding total
  total_append g [] ys = omega arith
  total_append g (x ∷ xs) ys = omega (arith, total_append g xs ys)

  -- a sum over blocks is the sum of the blocks' sums
  pub total-cat : (g : A → ℕ) (n : ℕ) (f : ℕ → List A) → total g (cat n f) ≡ sum n (λ i. total g (f i))
  unfolding cat sum total
  total-cat g zero f = refl
  total-cat g (suc n) f = omega (arith, total_append g (cat n f) (f n), total-cat g n f)

  -- a constant at each element
  pub total-add : (c : ℕ) (g : A → ℕ) (xs : List A) → total (λ x. c + g x) xs ≡ c * length xs + total g xs
  unfolding total
  total-add c g [] = omega (arith, mul-zero c)
  total-add c g (x ∷ xs) = omega (arith, total-add c g xs, mul-suc c (length xs))

total-map : {A B : Type 0} (g : B → ℕ) (f : A → B) (xs : List A) → total g (map f xs) ≡ total (λ x. g (f x)) xs
unfolding total
total-map g f [] = refl
total-map g f (x ∷ xs) = ap (λ (n : ℕ). g (f x) + n) (total-map g f xs)

-- ---- the list of all words

get_d_map : {A B : Type 0} (f : A → B) (l : List A) (k : ℕ) (d : A) (e : B) → k < length l → get_or (map f l) k e ≡ f (get_or l k d)
get_d_map f [] k d e h = absurd (omega arith)
get_d_map f (x ∷ l) zero d e h = refl
get_d_map f (x ∷ l) (suc k) d e h = get_d_map f l k d e (omega arith)

module _ (I : ℕ) where
  -- the words that begin with i
  abbrev block : ℕ → ℕ → List (List ℕ)
  block n i = map (λ (w : List ℕ). i ∷ w) (words I n)

  -- there are I ^ n words of n letters
  pub length-words : (n : ℕ) → length (words I n) ≡ I ^ n
  unfolding words
  length-words zero = sym (pow-zero I)
  length-words (suc n) =
      length-cat (I ^ n) I (block n) (λ i h. length-map (words I n) _ ∙ length-words n) ∙ mul_comm I (I ^ n) ∙ sym (pow-suc I n)

  length_next : (n : ℕ) → length (words I (suc n)) ≡ I * I ^ n
  length_next n = length-words (suc n) ∙ pow-suc I n ∙ mul_comm (I ^ n) I

  -- place i * I ^ n + k of the next list holds the letter i before the word at place k
  words-place : (n i k : ℕ) → i < I → k < I ^ n → get_or (words I (suc n)) (i * I ^ n + k) [] ≡ i ∷ get_or (words I n) k []
  unfolding words
  words-place n i k h l =
      get_d_cat (I ^ n) I (block n) (λ j u. length-map (words I n) _ ∙ length-words n) i k [] h l
      ∙ get_d_map (λ (w : List ℕ). i ∷ w) (words I n) k [] [] (rw length-words l)

  -- a place of the list of words of n + 1 letters, as a first letter and a place of the list for n
  record Place (n k : ℕ) : Type 0 where
    letter : ℕ
    rest : ℕ
    letter_low : letter < I
    rest_low : rest < I ^ n
    together : letter * I ^ n + rest ≡ k

  place : (n k : ℕ) → k < length (words I (suc n)) → Place n k
  place n k h =
      let low : k < I * I ^ n = rw length_next at h in
      let some : 0 < I ^ n = positive (I ^ n) low in
      record {
        letter = k / I ^ n;
        rest = k % I ^ n;
        letter_low = (div-lt_iff_lt-mul some).1 low;
        rest_low = mod-lt k some;
        together = ap (λ (x : ℕ). x + k % I ^ n) (mul_comm (k / I ^ n) (I ^ n)) ∙ div-add-mod k (I ^ n);
      }
    where
      positive : (c : ℕ) → k < I * c → 0 < c
      positive zero u = absurd (omega (arith, mul-zero I))
      positive (suc c) u = omega arith

  words_split : (n k : ℕ) (p : Place n k) → get_or (words I (suc n)) k [] ≡ p.letter ∷ get_or (words I n) p.rest []
  words_split n k p =
      ap (λ (j : ℕ). get_or (words I (suc n)) j []) (sym p.together) ∙ words-place n p.letter p.rest p.letter_low p.rest_low

  -- what stands in the list is a word
  pub words_word : (n k : ℕ) → k < length (words I n) → Word I n (get_or (words I n) k [])
  unfolding words
  words_word zero zero h = record { long = refl; below = tt }
  words_word zero (suc k) h = absurd (omega arith)
  words_word (suc n) k h =
      let p : Place n k = place n k h in
      rw (words_split n k p)
      (word_cons I n p.letter _ p.letter_low (words_word n p.rest (rw length-words p.rest_low)))

  word_stands : (n : ℕ) (w : List ℕ) → Word I n w → (k : ℕ) × (k < length (words I n)) × (get_or (words I n) k [] ≡ w)
  unfolding words
  word_stands zero [] r = (0, omega arith, refl)
  word_stands zero (i ∷ w) r = absurd (omega (arith, r.long))
  word_stands (suc n) [] r = absurd (omega (arith, r.long))
  word_stands (suc n) (i ∷ w) r =
      let p = word_stands n w (word_tail I n i w r) in
      let low : p.0 < I ^ n = rw length-words at p.1 in (
        i * I ^ n + p.0,
        rw length_next (digits_lt r.below.0 low),
        words-place n i p.0 r.below.0 low ∙ ap {B = List ℕ} (λ (v : List ℕ). i ∷ v) p.2,
      )

  -- the words of n letters below I are exactly what stands in the list
  pub words_has : (n : ℕ) (w : List ℕ) → Word I n w ↔ ((k : ℕ) × (k < length (words I n)) × (get_or (words I n) k [] ≡ w))
  words_has n w = (word_stands n w, λ p. rw p.2 at (words_word n p.0 p.1))

  -- and none stands there twice
  pub words_distinct : (n j k : ℕ) → j < length (words I n) → k < length (words I n)
      → get_or (words I n) j [] ≡ get_or (words I n) k [] → j ≡ k
  unfolding words
  words_distinct zero j k h l e = omega arith
  words_distinct (suc n) j k h l e =
      let p : Place n j = place n j h in
      let q : Place n k = place n k l in
      let x : p.letter ∷ get_or (words I n) p.rest [] ≡ q.letter ∷ get_or (words I n) q.rest [] =
      sym (words_split n j p) ∙ e ∙ words_split n k q in
      let y : p.letter ≡ q.letter = cc in
      let z : p.rest ≡ q.rest =
      words_distinct n p.rest q.rest (rw length-words p.rest_low) (rw length-words q.rest_low) (cc) in
      sym p.together ∙ ap₂ (λ (a b : ℕ). a * I ^ n + b) y z ∙ q.together

  -- a sum over all words, split by the first letter
  pub total-words : (g : List ℕ → ℕ) (n : ℕ) → total g (words I (suc n)) ≡ sum I (λ i. total (λ w. g (i ∷ w)) (words I n))
  unfolding words
  total-words g n = total-cat g I (block n) ∙ sum_cong I _ _ (λ i h. total-map g _ (words I n))

  -- a constant added at each word is added I ^ n times
  pub words-add : (c : ℕ) (g : List ℕ → ℕ) (n : ℕ) → total (λ w. c + g w) (words I n) ≡ c * I ^ n + total g (words I n)
  words-add c g n = total-add c g (words I n) ∙ ap (λ (k : ℕ). c * k + total g (words I n)) (length-words n)

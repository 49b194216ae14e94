-- Laws of a number in decimal: its digits, and how many there are.
-- Assumes nothing.
use Rattle.std.specs.Prelude.{◌≡◌, Bool, true, false, List, [], ◌∷◌, ◌++◌, ℕ, zero, suc, ◌+◌, ◌*◌, ◌/◌, ◌%◌, ◌^◌, ◌≤◌, ◌<◌, length, max}
use Rattle.std.proofs.Common.{sym, ap, ◌∙◌, arith, length-append, lt-ltb, le-ltb}
use Rattle.std.proofs.Math.Decide.{dec_lt}
use Rattle.std.proofs.Math.Nat.{one-le-pow}
use Rattle.listing_text.specs.Meaning.Listing.{decimal_from, decimal}

from_digit : (f n : ℕ) → n < 10 → decimal_from (suc f) n ≡ (48 + n) ∷ []
unfolding decimal_from
from_digit f n h =
    ap (λ (b : Bool). elim b [ true ↦ (48 + n) ∷ [] | false ↦ decimal_from f (n / 10) ++ ((48 + (n % 10)) ∷ []) ]) (lt-ltb n 10 h)

from_more : (f n : ℕ) → 10 ≤ n → decimal_from (suc f) n ≡ decimal_from f (n / 10) ++ ((48 + (n % 10)) ∷ [])
unfolding decimal_from
from_more f n h =
    ap (λ (b : Bool). elim b [ true ↦ (48 + n) ∷ [] | false ↦ decimal_from f (n / 10) ++ ((48 + (n % 10)) ∷ []) ]) (le-ltb n 10 h)

-- fuel above the number is enough
from_any : (f g n : ℕ) → n < f → n < g → decimal_from f n ≡ decimal_from g n
from_any zero g n h k = absurd (omega arith)
from_any (suc f) zero n h k = absurd (omega arith)
from_any (suc f) (suc g) n h k =
    elim (dec_lt n 10) [
      | yes l ↦ from_digit f n l ∙ sym (from_digit g n l)
      | no l ↦
          from_more f n (omega arith)
          ∙ ap (λ (s : List ℕ). s ++ ((48 + (n % 10)) ∷ [])) (from_any f g (n / 10) (omega arith) (omega arith))
          ∙ sym (from_more g n (omega arith))
    ]

pub decimal_digit : (n : ℕ) → n < 10 → decimal n ≡ (48 + n) ∷ []
unfolding decimal
decimal_digit n h = from_digit n n h

pub decimal_more : (n : ℕ) → 10 ≤ n → decimal n ≡ decimal (n / 10) ++ ((48 + (n % 10)) ∷ [])
unfolding decimal
decimal_more n h =
    from_more n n h
    ∙ ap (λ (s : List ℕ). s ++ ((48 + (n % 10)) ∷ [])) (from_any n (suc (n / 10)) (n / 10) (omega arith) (omega arith))

pub decimal_two : (n : ℕ) → 10 ≤ n → n < 100 → decimal n ≡ (48 + n / 10) ∷ (48 + (n % 10)) ∷ []
decimal_two n h l = rw (decimal_more n h, decimal_digit (n / 10) (omega arith))

pub decimal_three : (n : ℕ) → 100 ≤ n → n < 1000
    → decimal n ≡ (48 + n / 100) ∷ (48 + ((n / 10) % 10)) ∷ (48 + (n % 10)) ∷ []
decimal_three n h l =
    let hundreds : n / 10 / 10 ≡ n / 100 = omega arith in
    rw (decimal_more n (omega arith), decimal_two (n / 10) (omega arith) (omega arith), hundreds)

-- the same, as a place that found the digits one by one has them
pub digits_one : (n : ℕ) → n < 10 → {a : ℕ} → a ≡ 48 + n → a ∷ [] ≡ decimal n
digits_one n h e = rw (decimal_digit n h, e)

pub digits_two : (n : ℕ) → 10 ≤ n → n < 100 → {a b : ℕ} → a ≡ 48 + n / 10 → b ≡ 48 + (n % 10) → a ∷ b ∷ [] ≡ decimal n
digits_two n h l e f = rw (decimal_two n h l, e, f)

pub digits_three : (n : ℕ) → 100 ≤ n → n < 1000 → {a b c : ℕ} → a ≡ 48 + n / 100 → b ≡ 48 + ((n / 10) % 10) → c ≡ 48 + (n % 10)
    → a ∷ b ∷ c ∷ [] ≡ decimal n
digits_three n h l e f g = rw (decimal_three n h l, e, f, g)

-- how many there are: one, and one more for each division by ten
pub digits_more : (n : ℕ) → 10 ≤ n → length (decimal n) ≡ length (decimal (n / 10)) + 1
digits_more n h = ap length (decimal_more n h) ∙ length-append (decimal (n / 10)) ((48 + (n % 10)) ∷ [])

pub one_digit : (n : ℕ) → n < 10 → length (decimal n) ≡ 1
one_digit n h = rw (decimal_digit n h)

pub two_digits : (n : ℕ) → 10 ≤ n → n < 100 → length (decimal n) ≡ 2
two_digits n h l = rw (decimal_two n h l)

pub three_digits : (n : ℕ) → 100 ≤ n → n < 1000 → length (decimal n) ≡ 3
three_digits n h l = rw (decimal_three n h l)

pub two_most : (n : ℕ) → n < 100 → length (decimal n) ≤ 2
two_most n h = elim (dec_lt n 10) [ yes l ↦ omega (arith, one_digit n l) | no l ↦ omega (arith, two_digits n (omega arith) h) ]

pub three_most : (n : ℕ) → n < 1000 → length (decimal n) ≤ 3
three_most n h = elim (dec_lt n 100) [ yes l ↦ omega (arith, two_most n l) | no l ↦ omega (arith, three_digits n (omega arith) h) ]

-- and one more than the logarithm, which is asked of no 0
pub digits_log : (n k : ℕ) → n < 1000 → {m : ℕ} → m ≡ max n 1 → 10 ^ k ≤ m → m < 10 * 10 ^ k → (k + 1 ≡ length (decimal n)) × (k + 1 ≤ 3)
digits_log n zero few e low high = omega (arith, e, one_digit n (omega (arith, e)))
digits_log n (suc zero) few e low high = omega (arith, e, two_digits n (omega (arith, e)) (omega (arith, e)))
digits_log n (suc (suc zero)) few e low high = omega (arith, e, three_digits n (omega (arith, e)) few)
digits_log n (suc (suc (suc k))) few e low high = absurd (omega (arith, e, one-le-pow k 10 (omega arith)))

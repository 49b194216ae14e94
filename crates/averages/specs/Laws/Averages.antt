-- An average of a sum up to 2 ^ 53 is the quotient of two casts; over 2 ^ k words it is exact. Every average is a number that its
-- bits give back, and that of 0 is +0.
-- The formats' large powers stay behind variables: a goal that spells one out is slow.
-- Assumes nothing.
use Rattle.std.specs.Prelude.{◌≡◌, refl, Bool, true, false, not, cond, ℕ, zero, suc, ◌+◌, ◌-◌, ◌*◌, ◌^◌, ◌≤◌, ◌<◌, T, ltb, pos, Float}
use Rattle.std.proofs.Common.{sym, ap, ◌∙◌, true≢false, inl, inr, mul-one, one-mul, zero-mul, mul_assoc, mul_comm, mul_left_comm, mul-pos, lt_of_lt_of_le, eq-or-lt_of_le, arith, ne_eqb, le→leb, lit<, pow-add, pow_pos, pow_mono, shl_lt}
use Rattle.std.specs.Float.{nan, inf, fin, Format, binary64}
use Rattle.std.specs.Float.Ieee.{prec, emax, low, up, down, odd, units, round, div, of_int, in_float, is_nan, of_bits, to_bits}
use Rattle.std.specs.Float.Ieee.Bits.{of_bits-to_bits}
use Rattle.std.specs.Float.Ieee.Fits.{down_pos, round-fits}
use Rattle.std.specs.Float.Ieee.Exact.{HasValue, round_exact}
use Rattle.std.specs.Float.Ieee.Back.{round_whole}
use Rattle.std.specs.Float.Ieee.Scale.{round_same}
use Rattle.averages.specs.Meaning.Averages.{average_of, Exactly}

-- ---- what the code computes

-- a cast to f64 loses nothing
pub cast_fits : (n : ℕ) → n ≤ 2 ^ 53 → T (in_float binary64 (pos n))
unfolding in_float
cast_fits n h = le→leb n (2 ^ 53) h

-- and has the number's value
cast_value : (n : ℕ) → n ≤ 2 ^ 53 → HasValue (of_int binary64 (pos n)) false n 1
unfolding of_int
cast_value n h = round_whole binary64 false n h

-- the quotient of two floats with whole values
div_whole : (f : Format) (x y : Float) (a b : ℕ) → 0 < b → HasValue x false a 1 → HasValue y false b 1 → div f x y ≡ round f false a b
unfolding div
div_whole f nan y a b B h k = elim h [ ]
div_whole f (inf _) y a b B h k = elim h [ ]
div_whole f (fin true m e) y a b B h k = absurd (true≢false h.0)
div_whole f (fin false m e) nan a b B h k = elim k [ ]
div_whole f (fin false m e) (inf _) a b B h k = elim k [ ]
div_whole f (fin false m e) (fin true n d) a b B h k = absurd (true≢false k.0)
div_whole f (fin false m e) (fin false n d) a b B h k =
    let p : m * up e ≡ a * down e = sym (mul-one _) ∙ h.1 in
    let q : n * up d ≡ b * down d = sym (mul-one _) ∙ k.1 in
    let some : 0 < n * up d = rw q (mul-pos B (down_pos d)) in
    let filled : n ≡ 0 → ⊥ = λ z. omega (arith, ap (λ (x : ℕ). x * up d) z ∙ zero-mul (up d)) in
    rw (ne_eqb n 0 filled)
    (round_same f false (m * up e * down d) (n * up d * down e) a b (mul-pos some (down_pos e)) B
    (rw (p, q) (simp (mul_assoc, mul_comm, mul_left_comm))))

-- `(sum as f64) / (words as f64)`
pub quotient : (sum words : ℕ) → sum ≤ 2 ^ 53 → 0 < words → words ≤ 2 ^ 53
    → div binary64 (of_int binary64 (pos sum)) (of_int binary64 (pos words)) ≡ average_of sum words
unfolding average_of
quotient sum words h W l = div_whole binary64 _ _ sum words W (cast_value sum h) (cast_value words l)

-- ---- over 2 ^ k words

-- a power of two taken out of another
split : (a l k : ℕ) → k ≤ l → a * 2 ^ l ≡ a * 2 ^ (l - k) * 2 ^ k
split a l k h =
    let whole : l - k + k ≡ l = omega arith in
    ap (λ (x : ℕ). a * 2 ^ x) (sym whole) ∙ rw (pow-add 2 (l - k) k) (sym (mul_assoc _ _ _))

-- a shifted number stays in range
in_range : (a p j t : ℕ) → a < 2 ^ p → p + j ≤ t → a * 2 ^ j < 2 ^ t
in_range a p j t h l = lt_of_lt_of_le (shl_lt p j h) (pow_mono l)

-- a significand below 2 ^ 53, shifted by so many places that the smallest float's exponent is not passed
shifted_exactly : (sum k q j : ℕ) → q < 2 ^ 53 → k ≤ 24 → j ≤ 53 → sum ≡ q * 2 ^ j → Exactly (average_of sum (2 ^ k)) sum (2 ^ k)
unfolding average_of
shifted_exactly sum k q j small few near e =
    round_exact binary64 false sum (2 ^ k) q (j + 1074 - k) (pow_pos k) small
    (in_range q 53 (j + 1074 - k) 2098 small (omega arith))
    (ap (λ (x : ℕ). x * 2 ^ 1074) e ∙ mul_assoc q (2 ^ j) (2 ^ 1074) ∙ ap (λ (x : ℕ). q * x) (sym (pow-add 2 j 1074))
    ∙ split q (j + 1074) k (omega arith))

-- the average of a sum up to 2 ^ 53 is exact
pub exactly : (sum k : ℕ) → sum ≤ 2 ^ 53 → k ≤ 24 → Exactly (average_of sum (2 ^ k)) sum (2 ^ k)
exactly sum k most few =
    elim (eq-or-lt_of_le most) [
      | inl e ↦ shifted_exactly sum k 1 53 (lit< tt) few (omega arith) (e ∙ sym (one-mul (2 ^ 53)))
      | inr l ↦ shifted_exactly sum k sum 0 l few (omega arith) (sym (mul-one sum))
    ]

-- ---- bits

odd_number : (d : ℕ) (s : Bool) (q k l : ℕ) → T (not (is_nan (odd d s q k l)))
unfolding odd is_nan
odd_number d s zero k l = tt
odd_number d s (suc q) k l = tt

units_number : (f : Format) (s : Bool) (q k : ℕ) → T (not (is_nan (units f s q k)))
unfolding units is_nan
units_number f s q k = go (ltb (q * 2 ^ k) (2 ^ (low f + suc (emax f))))
  where
    go : (b : Bool) → T (not (is_nan (cond b (odd (suc (prec f)) s q k (low f)) (inf s))))
    go true = odd_number (suc (prec f)) s q k (low f)
    go false = tt

round_number : (f : Format) (s : Bool) (num den : ℕ) → T (not (is_nan (round f s num den)))
unfolding round
round_number f s num den = units_number f s _ _

-- every average is a number, so its bits may be taken
pub average_number : (sum words : ℕ) → T (not (is_nan (average_of sum words)))
unfolding average_of
average_number sum words = round_number binary64 false sum words

-- and give it back
pub bits_back : (sum words : ℕ) → of_bits binary64 (to_bits binary64 (average_of sum words)) ≡ average_of sum words
unfolding average_of
bits_back sum words = of_bits-to_bits binary64 (round binary64 false sum words) (round-fits binary64 false sum words)

-- ---- the average of 0

pub zero_average : (words : ℕ) → 0 < words → average_of 0 words ≡ fin false 0 (pos 0)
unfolding average_of round
zero_average words W = round_same binary64 false 0 words 0 1 W (omega arith) (zero-mul 1 ∙ sym (zero-mul words)) ∙ refl

-- all of its bits are 0
pub zero_bits : (words : ℕ) → 0 < words → to_bits binary64 (average_of 0 words) ≡ 0
unfolding to_bits
zero_bits words W = ap (to_bits binary64) (zero_average words W) ∙ refl

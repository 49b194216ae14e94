-- Numbers given by their bits.
-- Assumes nothing.
use Rattle.std.specs.Prelude.{◌≡◌, Bool, true, false, cond, ℕ, zero, suc, ◌+◌, ◌-◌, ◌*◌, ◌/◌, ◌%◌, ◌^◌, ◌≤◌, ◌<◌}
use Rattle.std.proofs.Common.{ap, ◌∙◌, suc-le-suc, add-zero, div-one, pow-suc, arith, pow_pos, pow_mono, pow-add}
use Rattle.std.proofs.Math.Nat.{add-div_right, add-mul-div_right, add-mul-mod_self_right, div-eq_of_lt, div-div-eq-div-mul, pow-succ'}
use Rattle.records.specs.Meaning.Bounded.{sum}
use Rattle.records.specs.Laws.Bounded.{cases_suc}
use Rattle.records.specs.Meaning.Bits.{bit_at}

-- the number whose bit o is `p o`, for each o below n, and that has no others
abbrev pub bits_of : ℕ → (ℕ → Bool) → ℕ
bits_of n p = sum n (λ o. cond (p o) (2 ^ o) 0)

pub bits_lt : (n : ℕ) (p : ℕ → Bool) → bits_of n p < 2 ^ n
unfolding sum
bits_lt zero p = omega arith
bits_lt (suc n) p = go (p n) (bits_lt n p)
  where
    go : (b : Bool) → bits_of n p < 2 ^ n → bits_of n p + cond b (2 ^ n) 0 < 2 ^ suc n
    go true h = omega arith
    go false h = omega arith

-- what is added at bit n leaves the bits below it, and is bit n itself
low_bit : (m n o : ℕ) (b : Bool) → o < n → bit_at (m + cond b (2 ^ n) 0) o ≡ bit_at m o
low_bit m n o false h = rw add-zero
low_bit m n o true h =
    let e : n ≡ n - o - 1 + 1 + o = omega arith in
    let parts : 2 ^ n ≡ 2 ^ (n - o - 1) * 2 * 2 ^ o =
    ap (λ (x : ℕ). 2 ^ x) e ∙ pow-add 2 (n - o - 1 + 1) o ∙ rw (pow-add 2 (n - o - 1) 1) in
    rw (parts, add-mul-div_right m (2 ^ (n - o - 1) * 2) (pow_pos o)) (add-mul-mod_self_right (m / 2 ^ o) (2 ^ (n - o - 1)) 2)

top_bit : (m n : ℕ) (b : Bool) → m < 2 ^ n → bit_at (m + cond b (2 ^ n) 0) n ≡ cond b 1 0
top_bit m n false h = rw (add-zero, div-eq_of_lt h)
top_bit m n true h = rw (add-div_right m (pow_pos n), div-eq_of_lt h)

-- below n the bits are the test
pub bit_of : (n : ℕ) (p : ℕ → Bool) (o : ℕ) → o < n → bit_at (bits_of n p) o ≡ cond (p o) 1 0
unfolding sum
bit_of zero p o h = absurd (omega arith)
bit_of (suc n) p o h =
    cases_suc o n h (λ l. low_bit (bits_of n p) n o (p n) l ∙ bit_of n p o l)
    (λ e. rw e (top_bit (bits_of n p) n (p n) (bits_lt n p)))

-- from n on they are 0
pub bit_past : (n : ℕ) (p : ℕ → Bool) (o : ℕ) → n ≤ o → bit_at (bits_of n p) o ≡ 0
bit_past n p o h = rw (div-eq_of_lt {n = bits_of n p} {m = 2 ^ o} (omega (arith, bits_lt n p, pow_mono h)))

-- ---- numbers told apart by their bits

-- a bit of the half is the next bit of the whole
half_bit : (m o : ℕ) → m / 2 / 2 ^ o ≡ m / 2 ^ suc o
half_bit m o = rw (pow-succ' 2 o) (div-div-eq-div-mul m 2 (2 ^ o))

-- numbers below 2 ^ n whose bits below n are equal are equal
pub same_bits : (n a b : ℕ) → a < 2 ^ n → b < 2 ^ n → ((o : ℕ) → o < n → bit_at a o ≡ bit_at b o) → a ≡ b
same_bits zero a b ha hb e = omega arith
same_bits (suc n) a b ha hb e =
    let half : a / 2 ≡ b / 2 =
    same_bits n (a / 2) (b / 2) (omega (arith, pow-suc 2 n)) (omega (arith, pow-suc 2 n)) (λ o h.
    rw (half_bit a o, half_bit b o) (e (suc o) (suc-le-suc h))) in
    let last : a % 2 ≡ b % 2 = simp div-one at (e 0 (omega arith)) in
    omega arith

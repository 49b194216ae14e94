-- Laws of little-endian numbers, and of lists of bytes.
-- Assumes nothing.
use Rattle.std.specs.Prelude.{◌≡◌, List, [], ◌∷◌, ◌++◌, ℕ, zero, suc, ◌+◌, ◌*◌, ◌/◌, ◌%◌, ◌<◌, length, get_or}
use Rattle.std.proofs.Common.{sym, ◌∙◌, ap, add-zero, arith, get_or-append-add}
use Rattle.std.proofs.Math.Decide.{dec_lt}
use Rattle.std.proofs.Math.ListN.{get_or-eq_default}
use Rattle.records.specs.Meaning.Lists.{cat}
use Rattle.records.specs.Meaning.Numbers.{Bytes, u16_at}

-- a number that was written is read back
pub u16_back : (xs : List ℕ) (v : ℕ) (ys : List ℕ) → u16_at (xs ++ (v % 256 ∷ v / 256 ∷ ys)) (length xs) ≡ v
unfolding u16_at
u16_back xs v ys =
    let low : get_or (xs ++ (v % 256 ∷ v / 256 ∷ ys)) (length xs) 0 ≡ v % 256 =
    ap (λ (k : ℕ). get_or (xs ++ (v % 256 ∷ v / 256 ∷ ys)) k 0) (sym (add-zero (length xs)))
    ∙ get_or-append-add xs (v % 256 ∷ v / 256 ∷ ys) 0 0 in
    let high : get_or (xs ++ (v % 256 ∷ v / 256 ∷ ys)) (length xs + 1) 0 ≡ v / 256 =
    get_or-append-add xs (v % 256 ∷ v / 256 ∷ ys) 1 0 in
    omega (arith, low, high)

-- ---- lists of bytes

-- each of a short list, as `omega` proves it
abbrev pub Small : List ℕ → Type 0
Small [] = Unit
Small (x ∷ s) = (x < 256) × Small s

pub bytes_small : (s : List ℕ) → Small s → Bytes s
bytes_small [] h k = omega arith
bytes_small (x ∷ s) h zero = h.0
bytes_small (x ∷ s) h (suc k) = bytes_small s h.1 k

pub bytes_append : (s t : List ℕ) → Bytes s → Bytes t → Bytes (s ++ t)
bytes_append [] t b c k = c k
bytes_append (x ∷ s) t b c zero = b 0
bytes_append (x ∷ s) t b c (suc k) = bytes_append s t (λ j. b (suc j)) c k

-- the elements that are there decide
pub bytes_of : (s : List ℕ) → ((k : ℕ) → k < length s → get_or s k 0 < 256) → Bytes s
bytes_of s h k =
    elim (dec_lt k (length s)) [ yes l ↦ h k l | no l ↦ rw (get_or-eq_default s 0 {n = k} (omega arith)) (omega arith) ]

pub bytes-cat : (n : ℕ) (f : ℕ → List ℕ) → ((k : ℕ) → k < n → Bytes (f k)) → Bytes (cat n f)
unfolding cat
bytes-cat zero f h = bytes_small [] tt
bytes-cat (suc n) f h = bytes_append (cat n f) (f n) (bytes-cat n f (λ k l. h k (omega arith))) (h n (omega arith))

-- the two bytes that make a number are those that are written for it
pub u16_low : (a b v : ℕ) → a < 256 → a + 256 * b ≡ v → v % 256 ≡ a
u16_low a b v h e = omega arith

pub u16_high : (a b v : ℕ) → a < 256 → a + 256 * b ≡ v → v / 256 ≡ b
u16_high a b v h e = omega arith

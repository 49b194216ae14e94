-- The loop that sets the bits of a mask one after the other, over any test.
-- Assumes nothing.
use mathlib.Core.Path.{◌≡◌, sym, ◌∙◌}
use mathlib.Core.Bool.{Bool, true, false}
use Prim.Native.Nat.{ℕ, ◌+◌, ◌*◌, ◌%◌, ◌^◌, ◌≤◌, ◌<◌}
use native.Mathlib.Nat.{one-mul, add-zero}
use native.Mathlib.Omega.{arith}
use lib.Dec.{lit<}
use lib.Pow.{shl_exact, pow_mono}
use Rattle.records.specs.Laws.Bits.{bits_of, bits_lt}
use Rattle.records.specs.Laws.Bounded.{sum_none, sum_more}

-- the bits below o are set
pub record Masking (p : ℕ → Bool) (outs mask o : ℕ) : Type 0 where
  pub within : o ≤ outs
  pub so_far : mask ≡ bits_of o p

pub begin : (p : ℕ → Bool) (outs : ℕ) → Masking p outs 0 0
begin p outs = record { within = omega arith; so_far = sym (sum_none _) }

-- bit o as the code makes it
one_bit : (o : ℕ) → o < 8 → (1 * 2 ^ o) % 256 ≡ 2 ^ o
one_bit o h = shl_exact 1 o 8 (lit< tt) (omega arith) ∙ one-mul _

module _ {p : ℕ → Bool} {outs mask o : ℕ} (inv : Masking p outs mask o) where
  -- a bit more fits a byte
  pub fits : o < 8 → mask + (1 * 2 ^ o) % 256 < 256
  fits h = omega (arith, one_bit o h, inv.so_far, bits_lt o p, pow_mono {j = 7} (let m : o ≤ 7 = omega arith in m))

  -- the two ways of a turn
  pub bit_on : o < outs → o < 8 → p o ≡ true → {m : ℕ} → m ≡ mask + (1 * 2 ^ o) % 256 → Masking p outs m (o + 1)
  bit_on l h e q =
      record { within = omega arith; so_far = q ∙ rw (sum_more, e, one_bit o h, inv.so_far) }

  pub bit_off : o < outs → p o ≡ false → {m : ℕ} → m ≡ mask → Masking p outs m (o + 1)
  bit_off l e q = record { within = omega arith; so_far = q ∙ rw (sum_more, e, add-zero) inv.so_far }

  pub end : outs ≤ o → mask ≡ bits_of outs p
  end h = let e : o ≡ outs = omega (arith, inv.within) in rw (← e) inv.so_far

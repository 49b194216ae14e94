-- What ranking needs: a literal's digit without a test, and the rank as a loop finds it.
-- Assumes nothing.
use mathlib.Core.Path.{◌≡◌, refl}
use mathlib.Core.Bool.{cond}
use mathlib.Core.List.{List}
use Prim.Native.Nat.{ℕ, zero, suc, ◌+◌, ◌-◌, ◌*◌, ◌/◌, ◌%◌, ◌^◌, ◌≤◌, ◌<◌}
use native.Mathlib.Nat.{mod-lt}
use native.Mathlib.Numerals.{add-one}
use native.Mathlib.Omega.{arith}
use lib.Dec.{ltb, eqb}
use lib.ListN.{get_or}
use lib.Pow.{pow_mono}
use lib.Bits.{bit_xor}
use borrow.Author.Tests.{ltb-true, ltb-false}
use Rattle.records.specs.Meaning.Limits.{max_outputs, max_outs}
use Rattle.records.specs.Laws.Tests.{by_test}
use Rattle.values.specs.Meaning.Order.{literal_holds}
use Rattle.values.specs.Model.Rank.{literal_digit, rank_by}
use Rattle.values.specs.Laws.Ranks.{digit_low, rank_low}

-- a bit turned over where off is 1: 1 exactly if the two differ
turned : (bit off : ℕ) → bit < 2 → off < 2 → bit_xor bit off ≡ cond (eqb bit (1 - off)) 1 0
turned zero zero h k = refl
turned zero (suc zero) h k = refl
turned (suc zero) zero h k = refl
turned (suc zero) (suc zero) h k = refl
turned zero (suc (suc off)) h k = absurd (omega arith)
turned (suc zero) (suc (suc off)) h k = absurd (omega arith)
turned (suc (suc bit)) off h k = absurd (omega arith)

-- a literal's digit is its line's bit, turned over where off is preferred
pub digit_turned : (literal o line off : ℕ) → line ≡ literal % 8 → (literal < 8 → off ≡ 0) → (8 ≤ literal → off ≡ 1)
    → bit_xor (o / 2 ^ line % 2) off ≡ literal_digit literal o
unfolding literal_holds
digit_turned literal o line off l below from =
    let bit : ℕ = o / 2 ^ (literal % 8) % 2 in
    let small : bit < 2 = mod-lt _ (omega arith) in
    rw l
    (by_test (ltb literal 8)
    (λ t. rw (t, below (ltb-true literal 8 t)) (turned bit 0 small (omega arith)))
    (λ t. rw (t, from (ltb-false literal 8 t)) (turned bit 1 small (omega arith))))

-- a digit is a bit
pub digit_small : (literal o r : ℕ) → r ≡ literal_digit literal o → r < 2
digit_small literal o r e = omega (arith, e, digit_low (literal_holds literal o))

module _ (literals : List ℕ) where
  -- as a loop that counts up finds it
  pub rank_none : (o : ℕ) → rank_by literals 0 o ≡ 0
  unfolding rank_by
  rank_none o = refl

  pub rank_more : (n o : ℕ) → rank_by literals (n + 1) o ≡ 2 * rank_by literals n o + literal_digit (get_or literals n 0) o
  unfolding rank_by
  rank_more n o = rw add-one

  -- three literals give ranks below eight
  pub rank_small : (n o r : ℕ) → r ≡ rank_by literals n o → n ≤ max_outputs → r < max_outs
  rank_small n o r e h = let most : 2 ^ n ≤ max_outs = pow_mono {j = max_outputs} h in omega (arith, rank_low literals n o)

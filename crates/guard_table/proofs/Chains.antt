-- A test at each number of a range.
-- Assumes nothing.
use lib.ListN.{get_or}
use Rattle.std.specs.Prelude.{◌≡◌, Bool, true, false, ℕ, ◌<◌, length, MatchBool}
use Rattle.std.specs.List.{AllWithin, HoldsAt, range_with_len}
use Rattle.std.proofs.lemmas.List.FromFn.{get_or-range_with_len, length-range_with_len}
use Rattle.std.proofs.Common.{arith, subst, sym}
use Rattle.records.specs.Meaning.Bounded.{all}
use Rattle.records.specs.Laws.Bounded.{all_of, all_fails}

number : (n k : ℕ) → k < n → get_or (range_with_len 0 n) k 0 ≡ k
number n k l = omega (arith, get_or-range_with_len 0 n k 0 l)

-- `(0..n).all(..)`, as `cases_from_all` tells it
pub all_below : (p : ℕ → Bool) (n : ℕ) (r : Bool)
    → MatchBool r (AllWithin (λ k. p k ≡ true) (range_with_len 0 n) 0 (length (range_with_len 0 n)))
    ((k : ℕ) × (k < length (range_with_len 0 n)) × HoldsAt (λ k. p k ≡ false) (range_with_len 0 n) k)
    → r ≡ all n p
all_below p n true h =
    sym (all_of n p (λ i l. subst (λ k. p k ≡ true) (number n i l) (h i 0 (omega arith) (omega (arith, length-range_with_len 0 n)))))
all_below p n false h =
    let low : h.0 < n = omega (arith, length-range_with_len 0 n, h.1) in
    sym (all_fails n p h.0 low (subst (λ k. p k ≡ false) (number n h.0 low) (h.2 0)))

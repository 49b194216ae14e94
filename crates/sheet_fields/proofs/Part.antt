-- The bytes of a part of a slice, as an iterator's `all` answers of them.
-- Assumes nothing.
use Rattle.std.specs.Prelude.{◌≡◌, Bool, true, false, List, ℕ, ◌+◌, ◌-◌, ◌≤◌, ◌<◌, length, get_or, drop, slice_range, HoldsAt, MatchBool}
use Rattle.std.specs.List.{AllWithin}
use Rattle.std.proofs.Common.{arith, sym, ◌∙◌}
use Rattle.std.proofs.lemmas.List.{get_or-take, get_or-drop, length-take, length-drop}
use Rattle.records.specs.Laws.Bounded.{all_of, all_fails}
use Rattle.records.specs.Meaning.Bounded.{all}

module _ (s : List ℕ) (at n : ℕ) (within : at + n ≤ length s) where
  abbrev bytes : List ℕ
  bytes = slice_range s at (at + n)

  whole : at + n - at ≡ n
  whole = omega arith

  long : length bytes ≡ n
  long = rw whole (omega (arith, length-take n (drop at s), length-drop at s))

  here : (k : ℕ) → k < n → get_or bytes k 0 ≡ get_or s (at + k) 0
  here k l = rw whole (get_or-take n (drop at s) k 0 l ∙ get_or-drop at s k 0)

  pub told : (p : ℕ → Bool) (r : Bool)
      → MatchBool r (AllWithin (λ x. p x ≡ true) bytes 0 (length bytes))
      ((k : ℕ) × (k < length bytes) × HoldsAt (λ x. p x ≡ false) bytes k)
      → r ≡ all n (λ k. p (get_or s (at + k) 0))
  told p true f = sym (all_of _ _ (λ k l. rw (here k l) at (f k 0 (omega arith) (omega (arith, long)))))
  told p false f = let l : f.0 < n = omega (arith, long, f.1) in sym (all_fails _ _ f.0 l (rw (here f.0 l) at (f.2 0)))

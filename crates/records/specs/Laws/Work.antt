-- Work memory that is long enough, slice by slice.
-- Assumes nothing.
use Rattle.std.specs.Prelude.{◌≡◌, refl, true, false, List, [], ◌∷◌, ℕ, zero, suc, ◌≤◌, ◌<◌, length, get_or, leb}
use Rattle.std.proofs.Common.{arith, leb-true, le-leb}
use Rattle.std.proofs.lemmas.Bool.{lt-leb}
use native.Mathlib.Nat.{le_of_suc-le-suc}
use Prim.Native.Nat.{suc-le-suc}
use Rattle.records.specs.Meaning.Work.{Slice, long_enough}
use Rattle.records.specs.Laws.Tests.{both_ways, by_test, and_left, and_right}

-- each slice has its length
unfoldable pub Long : List Slice → List ℕ → Type 0
Long [] lent = Unit {0}
Long (s ∷ work) [] = ⊥
Long (s ∷ work) (n ∷ lent) = (s.asked ≤ n) × Long work lent

pub long_enough_lem : (work : List Slice) (lent : List ℕ) → long_enough work lent ≡ true → Long work lent
unfolding long_enough Long
long_enough_lem [] lent e = tt
long_enough_lem (s ∷ work) [] e = both_ways e refl
long_enough_lem (s ∷ work) (n ∷ lent) e = (
  leb-true _ _ (and_left (leb s.asked n) (long_enough work lent) e),
  long_enough_lem work lent (and_right (leb s.asked n) (long_enough work lent) e),
)

-- just the lengths that are asked for are enough
unfoldable pub exactly : List Slice → List ℕ
exactly [] = []
exactly (s ∷ work) = s.asked ∷ exactly work

pub exactly_enough : (work : List Slice) → long_enough work (exactly work) ≡ true
unfolding long_enough exactly
exactly_enough [] = refl
exactly_enough (s ∷ work) = rw (le-leb s.asked s.asked (omega arith)) (exactly_enough work)

-- as many lengths as slices, none of them short
pub all_long : (work : List Slice) (lent : List ℕ) → length lent ≡ length (exactly work)
    → ((k : ℕ) → k < length lent → get_or (exactly work) k 0 ≤ get_or lent k 0) → long_enough work lent ≡ true
unfolding long_enough exactly
all_long [] lent e h = refl
all_long (s ∷ work) [] e h = absurd (omega arith)
all_long (s ∷ work) (n ∷ lent) e h =
    rw (le-leb s.asked n (h 0 (omega arith))) (all_long work lent (omega arith) (λ k l. h (suc k) (suc-le-suc l)))

-- and one that is
pub one_short : (work : List Slice) (lent : List ℕ) (k : ℕ) → k < length lent → get_or lent k 0 < get_or (exactly work) k 0
    → long_enough work lent ≡ false
unfolding long_enough exactly
one_short [] lent k l h = absurd (omega arith)
one_short (s ∷ work) [] k l h = refl
one_short (s ∷ work) (n ∷ lent) zero l h = rw (lt-leb s.asked n h)
one_short (s ∷ work) (n ∷ lent) (suc k) l h =
    let rest : long_enough work lent ≡ false = one_short work lent k (le_of_suc-le-suc l) h in
    by_test (leb s.asked n) (λ e. rw (e, rest)) (λ e. rw e)

-- A row of the notebook: a claim, and the test that it is computed by.
-- Assumes nothing.
use Rattle.std.specs.Prelude.{◌≡◌, Bool, true, ◌&&◌, List, [], ◌∷◌, ℕ, ltb, eqb}
use Rattle.std.proofs.Common.{ltb-true, eqb-true}
use Rattle.records.specs.Laws.Tests.{and_left, and_right}
use Rattle.product.specs.Model.States.{same}
use Rattle.product.specs.Laws.ProductNumbering.{same_equal}
use Rattle.values.specs.Meaning.Order.{Higher}
use Rattle.values.specs.Model.Rank.{rank}
use Rattle.values.specs.Laws.Ranks.{rank_order}

pub data Row : Type 0 where
  -- what is computed is this number, or are these numbers or bytes
  is : (computed due : ℕ) → Row
  are : (computed due : List ℕ) → Row
  -- by these literals the outputs stand in this order, highest first
  ordered : (literals outputs : List ℕ) → Row

-- ---- what a row claims

-- o stands above each of these
abbrev pub Above : List ℕ → ℕ → List ℕ → Type 0
Above literals o [] = Unit
Above literals o (q ∷ qs) = Higher literals o q × Above literals o qs

abbrev pub Ordered : List ℕ → List ℕ → Type 0
Ordered literals [] = Unit
Ordered literals (o ∷ os) = Above literals o os × Ordered literals os

abbrev pub Holds : Row → Type 0
Holds (is computed due) = computed ≡ due
Holds (are computed due) = computed ≡ due
Holds (ordered literals outputs) = Ordered literals outputs

abbrev pub AllHold : List Row → Type 0
AllHold [] = Unit
AllHold (r ∷ rs) = Holds r × AllHold rs

-- ---- its test

unfoldable pub is_above : List ℕ → ℕ → List ℕ → Bool
is_above literals o [] = true
is_above literals o (q ∷ qs) = ltb (rank literals q) (rank literals o) && is_above literals o qs

unfoldable pub is_ordered : List ℕ → List ℕ → Bool
is_ordered literals [] = true
is_ordered literals (o ∷ os) = is_above literals o os && is_ordered literals os

unfoldable pub test : Row → Bool
test (is computed due) = eqb computed due
test (are computed due) = same computed due
test (ordered literals outputs) = is_ordered literals outputs

unfoldable pub tests : List Row → Bool
tests [] = true
tests (r ∷ rs) = test r && tests rs

-- ---- a row whose test succeeds holds

above : (literals : List ℕ) (o : ℕ) (qs : List ℕ) → is_above literals o qs ≡ true → Above literals o qs
unfolding is_above
above literals o [] e = tt
above literals o (q ∷ qs) e = (
  (rank_order literals o q).0 (ltb-true _ _ (and_left (ltb (rank literals q) (rank literals o)) _ e)),
  above literals o qs (and_right (ltb (rank literals q) (rank literals o)) _ e),
)

in_order : (literals os : List ℕ) → is_ordered literals os ≡ true → Ordered literals os
unfolding is_ordered
in_order literals [] e = tt
in_order literals (o ∷ os) e = (
  above literals o os (and_left (is_above literals o os) _ e),
  in_order literals os (and_right (is_above literals o os) _ e),
)

holds : (r : Row) → test r ≡ true → Holds r
unfolding test
holds (is computed due) e = eqb-true _ _ e
holds (are computed due) e = same_equal _ _ e
holds (ordered literals outputs) e = in_order literals outputs e

pub all_hold : (rs : List Row) → tests rs ≡ true → AllHold rs
unfolding tests
all_hold [] e = tt
all_hold (r ∷ rs) e = (holds r (and_left (test r) _ e), all_hold rs (and_right (test r) _ e))

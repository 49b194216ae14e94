-- The entries at the start of the round that is under way, as the code reads them.
-- Assumes nothing.
use mathlib.Core.Path.{◌≡◌, sym, ◌∙◌}
use mathlib.Core.Bool.{true, false, cond}
use mathlib.Core.List.{List}
use Prim.Native.Nat.{ℕ, ◌<◌}
use lib.Dec.{eqb}
use lib.ListN.{length, get_or}
use borrow.Author.Tests.{eqb-true, eq-eqb, ne_eqb}
use Rattle.records.specs.Laws.Tests.{by_test}
use Rattle.records.specs.Laws.Lists.{put_ext, put_self, get_d_put-front}
use Rattle.records.specs.Model.Cells.{is_broken}
use Rattle.rounds.specs.Model.TableRounds.{is_in, leads_in}
use Rattle.rounds.specs.Model.InPlace.{at_start}

start_at : (r : ℕ) (d : List ℕ) (k : ℕ) → k < length d
    → get_or (at_start r d) k 0 ≡ cond (eqb (get_or d k 0) r) 0 (get_or d k 0)
unfolding at_start
start_at r d k h = get_d_put-front d (length d) _ k 0 h h

-- a state that the round has dropped was in, and another is as it was
pub start_back : (r : ℕ) (d : List ℕ) (k : ℕ) → k < length d → get_or d k 0 ≡ r → is_in (at_start r d) k ≡ true
unfolding is_in
start_back r d k h e = rw (start_at r d k h, eq-eqb _ _ e)

pub start_same : (r : ℕ) (d : List ℕ) (k : ℕ) → k < length d → (get_or d k 0 ≡ r → ⊥) → is_in (at_start r d) k ≡ is_in d k
unfolding is_in
start_same r d k h ne = rw (start_at r d k h, ne_eqb _ _ ne)

-- no round is under way: its number would be 0
pub start_none : (d : List ℕ) → at_start 0 d ≡ d
unfolding at_start
start_none d =
    put_ext d (length d) _ _ (λ k h. by_test (eqb (get_or d k 0) 0) (λ y. rw y (sym (eqb-true _ _ y))) (λ y. rw y))
    ∙ put_self d (length d)

-- a cell: broken, to a state that the round has dropped, to another
module _ (cells dropped : List ℕ) (r at : ℕ) where
  pub leads_broken : is_broken (get_or cells at 0) ≡ true → false ≡ leads_in cells (at_start r dropped) at
  unfolding leads_in
  leads_broken e = rw e

  pub leads_back : is_broken (get_or cells at 0) ≡ false → get_or cells at 0 < length dropped
      → get_or dropped (get_or cells at 0) 0 ≡ r → true ≡ leads_in cells (at_start r dropped) at
  unfolding leads_in
  leads_back e h q = rw (e, start_back r dropped (get_or cells at 0) h q)

  pub leads_else : is_broken (get_or cells at 0) ≡ false → get_or cells at 0 < length dropped
      → (get_or dropped (get_or cells at 0) 0 ≡ r → ⊥) → is_in dropped (get_or cells at 0) ≡ leads_in cells (at_start r dropped) at
  unfolding leads_in
  leads_else e h q = rw (e, start_same r dropped (get_or cells at 0) h q)

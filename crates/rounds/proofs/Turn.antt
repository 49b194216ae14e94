-- A round made in place, state by state.
-- Assumes nothing.
use mathlib.Core.Path.{◌≡◌, sym, ap, ◌∙◌}
use mathlib.Core.Bool.{true, false, cond, not, ◌&&◌}
use mathlib.Core.List.{List}
use mathlib.Core.Logic.{⊎_elim, inl, inr, ◌⊎◌}
use Prim.Native.Nat.{ℕ, ◌+◌, ◌≤◌, ◌<◌}
use native.Mathlib.Decide.{dec_lt}
use native.Mathlib.Omega.{arith}
use lib.Dec.{eqb}
use lib.ListN.{length, get_or, set}
use lib.Seq.{set-get_or}
use borrow.Author.Tests.{ne_eqb}
use Rattle.records.specs.Laws.Tests.{by_test, and_left}
use Rattle.records.specs.Meaning.Bounded.{count}
use Rattle.records.specs.Laws.Bounded.{count_none, count_more, count_le, count_cong}
use Rattle.records.specs.Model.Lists.{put}
use Rattle.records.specs.Laws.Lists.{put_none, put_more, length-put, get_d_put-front, get_d_put_rest}
use Rattle.rounds.specs.Model.TableRounds.{Steps, is_in, stays, entry_after, round, kept_count}
use Rattle.rounds.specs.Model.InPlace.{at_start, drops, Rounded}
use Rattle.rounds.specs.Laws.TableRounds.{stays_cong, round-at}
use Rattle.rounds.proofs.Start.{start_back, start_same}

-- the first k states have their entries after the round, and `lost` of them were dropped
pub record Turn (cells : List ℕ) (n ins outs r : ℕ) (before now : List ℕ) (lost k : ℕ) : Type 0 where
  pub within : k ≤ n
  pub so_far : now ≡ put before k (entry_after cells ins outs r before)
  pub counted : lost + count k (λ j. eqb (entry_after cells ins outs r before j) 0) ≡ count k (is_in before)

pub begin : (cells : List ℕ) (n ins outs r : ℕ) (before : List ℕ) → Turn cells n ins outs r before before 0 0
begin cells n ins outs r before =
    record { within = omega arith; so_far = sym (put_none _ _); counted = rw (count_none, count_none) }

module _ {cells : List ℕ} {n ins outs r : ℕ} {before now : List ℕ} {lost k : ℕ}
    (inv : Turn cells n ins outs r before now lost k) where
  pub same : length now ≡ length before
  same = rw (inv.so_far, length-put)

  pub lost_most : lost ≤ k
  lost_most = omega (arith, inv.counted, count_le k (is_in before))

  pub end : n ≤ length before → n ≤ k → Rounded cells n ins outs r before now lost
  unfolding round kept_count is_in
  end room g =
      let e : k ≡ n = omega (arith, inv.within) in
      let whole : now ≡ round cells n ins outs r before = inv.so_far ∙ rw e in
      let left : count n (is_in now) ≡ count n (λ j. eqb (entry_after cells ins outs r before j) 0) =
      count_cong n _ _ (λ j h. rw (whole, round-at cells n ins outs r before room j h)) in
      record { entries = whole; counted = omega (arith, left, rw e at inv.counted) }

  module _ (table : Steps cells n ins outs) (room : n ≤ length before)
      (low : (q : ℕ) → q < n → get_or before q 0 < r) (l : k < n) where
    -- an entry is as it was, or the round's number in place of 0
    entry_now : (q : ℕ) → q < n → (get_or now q 0 ≡ get_or before q 0) ⊎ ((get_or now q 0 ≡ r) × (is_in before q ≡ true))
    unfolding entry_after
    entry_now q h =
        elim (dec_lt q k) [
          | yes u ↦
              let e : get_or now q 0 ≡ entry_after cells ins outs r before q =
              rw inv.so_far (get_d_put-front before k _ q 0 u (omega arith)) in
              by_test (is_in before q && not (stays cells before ins outs q))
              (λ y. inr (e ∙ rw y, and_left _ _ y)) (λ y. inl (e ∙ rw y))
          | no u ↦ inl (rw inv.so_far (get_d_put_rest before k _ q 0 (omega arith)))
        ]

    at_start_lem : (q : ℕ) → q < n → is_in (at_start r now) q ≡ is_in before q
    unfolding is_in
    at_start_lem q h =
        let u : q < length now = omega (arith, same) in
        ⊎_elim (λ e. start_same r now q u (λ z. omega (arith, low q h)) ∙ rw e) (λ p. start_back r now q u p.0 ∙ sym p.1)
        (entry_now q h)

    here : get_or now k 0 ≡ get_or before k 0
    here = rw inv.so_far (get_d_put_rest before k _ k 0 (omega arith))

    kept : (x : ℕ) → x ≡ get_or before k 0 → ◌≡◌ {A = ℕ} (cond (eqb x 0) 1 0) (cond (is_in before k) 1 0)
    unfolding is_in
    kept x e = rw e

    drops-here : drops cells ins outs r now k ≡ is_in before k && not (stays cells before ins outs k)
    unfolding drops is_in
    drops-here = rw (here, stays_cong table (at_start r now) before at_start_lem k l)

    -- the two ways of a turn
    pub drop : drops cells ins outs r now k ≡ true → {then : List ℕ} {more : ℕ} → then ≡ set now k r → more ≡ lost + 1
        → Turn cells n ins outs r before then more (k + 1)
    unfolding entry_after
    drop y p q =
        let E : ℕ → ℕ = entry_after cells ins outs r before in
        let d : is_in before k && not (stays cells before ins outs k) ≡ true = sym drops-here ∙ y in
        let f : E k ≡ r = rw d in
        let out : ◌≡◌ {A = ℕ} (cond (eqb (E k) 0) 1 0) 0 = rw (f, ne_eqb r 0 (λ z. omega (arith, low k l))) in
        let was : ◌≡◌ {A = ℕ} (cond (is_in before k) 1 0) 1 = rw (and_left (is_in before k) _ d) in
        record {
          within = omega arith;
          so_far = p ∙ ap (set now k) (sym f) ∙ ap (λ (t : List ℕ). set t k (E k)) inv.so_far ∙ put_more before k E;
          counted = omega (arith, inv.counted, count_more k (λ j. eqb (E j) 0), count_more k (is_in before), out, was);
        }

    pub keep : drops cells ins outs r now k ≡ false → {then : List ℕ} {more : ℕ} → then ≡ now → more ≡ lost
        → Turn cells n ins outs r before then more (k + 1)
    unfolding entry_after
    keep y p q =
        let E : ℕ → ℕ = entry_after cells ins outs r before in
        let d : is_in before k && not (stays cells before ins outs k) ≡ false = sym drops-here ∙ y in
        let f : E k ≡ get_or before k 0 = rw d in
        let is : ◌≡◌ {A = ℕ} (cond (eqb (E k) 0) 1 0) (cond (is_in before k) 1 0) = kept (E k) f in
        record {
          within = omega arith;
          so_far =
              p ∙ sym (set-get_or now k 0) ∙ ap (set now k) (here ∙ sym f) ∙ ap (λ (t : List ℕ). set t k (E k)) inv.so_far
              ∙ put_more before k E;
          counted = omega (arith, inv.counted, count_more k (λ j. eqb (E j) 0), count_more k (is_in before), is);
        }

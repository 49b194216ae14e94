-- Laws of the rank: ranks follow document 01's output order, and where each line stands once no two outputs have the same.
-- Assumes nothing.
use Rattle.std.specs.Prelude.{◌≡◌, ◌↔◌, Bool, true, false, cond, List, ltb, eqb, length}
use Rattle.std.proofs.Math.Path.{refl}
use Rattle.std.proofs.Common.{sym, ◌∙◌, mod-lt, eqb-true}
use Prim.Native.Nat.{ℕ, zero, suc, ◌/◌, ◌%◌, ◌^◌, ◌≤◌, ◌<◌}
use Rattle.std.proofs.Math.Nat.{pow-suc}
use Rattle.std.proofs.Math.Decide.{dec_lt}
use native.Mathlib.Omega.{arith}
use Rattle.std.proofs.Math.ListN.{get_or}
use Rattle.std.proofs.lemmas.Bool.{eqb-false}
use Rattle.records.specs.Laws.Tests.{by_test}
use Rattle.records.specs.Laws.Bounded.{cases_suc}
use Rattle.records.specs.Laws.Bits.{same_bits}
use Rattle.records.specs.Meaning.Lists.{tab}
use Rattle.records.specs.Laws.Lists.{length-tab, get_d_tab}
use Rattle.records.specs.Laws.Pigeonhole.{onto}
use Rattle.values.specs.Meaning.Order.{literal_holds, Higher, NamesEach}
use Rattle.values.specs.Model.Rank.{rank_by, rank}
use Rattle.values.specs.Promises.Rank.{RanksFollow, Ranked}

-- a truth as a digit
abbrev digit : Bool → ℕ
digit b = cond b 1 0

pub digit_low : (b : Bool) → digit b ≤ 1
digit_low true = omega arith
digit_low false = omega arith

digit-same : (a b : Bool) → digit a ≡ digit b → a ≡ b
digit-same true true e = refl
digit-same true false e = absurd (omega arith)
digit-same false true e = absurd (omega arith)
digit-same false false e = refl

digit_less : (a b : Bool) → digit a < digit b → (a ≡ false) × (b ≡ true)
digit_less true b h = absurd (omega (arith, digit_low b))
digit_less false true h = (refl, refl)
digit_less false false h = absurd (omega arith)

module _ (literals : List ℕ) where
  pub rank_low : (n o : ℕ) → rank_by literals n o < 2 ^ n
  unfolding rank_by
  rank_low zero o = omega arith
  rank_low (suc n) o = omega (arith, rank_low n o, digit_low (literal_holds (get_or literals n 0) o), pow-suc 2 n)

  -- the literals before n hold of both outputs or of neither
  abbrev Alike : ℕ → ℕ → ℕ → Type 0
  Alike n o q = (j : ℕ) → j < n → literal_holds (get_or literals j 0) o ≡ literal_holds (get_or literals j 0) q

  pub alike_rank : (n o q : ℕ) → Alike n o q → rank_by literals n o ≡ rank_by literals n q
  unfolding rank_by
  alike_rank zero o q a = refl
  alike_rank (suc n) o q a = rw (alike_rank n o q (λ j h. a j (omega arith)), a n (omega arith))

  pub rank_alike : (n o q : ℕ) → rank_by literals n o ≡ rank_by literals n q → Alike n o q
  unfolding rank_by
  rank_alike zero o q e j h = absurd (omega arith)
  rank_alike (suc n) o q e j h =
      let x : digit (literal_holds (get_or literals n 0) o) ≤ 1 = digit_low (literal_holds (get_or literals n 0) o) in
      let y : digit (literal_holds (get_or literals n 0) q) ≤ 1 = digit_low (literal_holds (get_or literals n 0) q) in
      cases_suc j n h (rank_alike n o q (omega arith) j) (λ i. rw i (digit-same _ _ (omega arith)))

  -- a smaller rank, and the first literal at which the outputs differ
  rank_higher : (n o q : ℕ) → rank_by literals n q < rank_by literals n o
      → (at : ℕ) × (at < n) × Alike at o q × (literal_holds (get_or literals at 0) o ≡ true) × (literal_holds (get_or literals at 0) q ≡ false)
  unfolding rank_by
  rank_higher zero o q h = absurd (omega arith)
  rank_higher (suc n) o q h =
      elim (dec_lt (rank_by literals n q) (rank_by literals n o)) [
        | yes l ↦
            let r = rank_higher n o q l in (r.0, omega (arith, r.1), r.2, r.3, r.4)
        | no l ↦
            let x : digit (literal_holds (get_or literals n 0) o) ≤ 1 = digit_low (literal_holds (get_or literals n 0) o) in
            let y : digit (literal_holds (get_or literals n 0) q) ≤ 1 = digit_low (literal_holds (get_or literals n 0) q) in
            let less = digit_less (literal_holds (get_or literals n 0) q) (literal_holds (get_or literals n 0) o) (omega arith) in
            (n, omega arith, rank_alike n o q (omega arith), less.1, less.0)
      ]

  higher_rank : (n o q at : ℕ) → at < n → Alike at o q → literal_holds (get_or literals at 0) o ≡ true
      → literal_holds (get_or literals at 0) q ≡ false → rank_by literals n q < rank_by literals n o
  unfolding rank_by
  higher_rank zero o q at h a t f = absurd (omega arith)
  higher_rank (suc n) o q at h a t f =
      cases_suc at n h
      (λ l. omega (arith, higher_rank n o q at l a t f, digit_low (literal_holds (get_or literals n 0) q)))
      (λ l.
      let same : rank_by literals n o ≡ rank_by literals n q = alike_rank n o q (rw l at a) in
      rw (same, rw l at t, rw l at f) (omega arith))

  -- the ranks follow the output order, whatever the literals and the outputs are
  pub rank_order : (o q : ℕ) → (rank literals q < rank literals o) ↔ Higher literals o q
  unfolding rank
  rank_order o q = (
    λ h.
        let r = rank_higher (length literals) o q h in
        record { at = r.0; inside = r.1; alike = r.2; above = r.3; below = r.4 },
    λ h. higher_rank (length literals) o q h.at h.inside h.alike h.above h.below,
  )

-- the rank by the first n literals of a longer list
pub rank-front : (literals : List ℕ) (n o : ℕ) → rank (tab n (λ j. get_or literals j 0)) o ≡ rank_by literals n o
unfolding rank rank_by
rank-front literals n o = rw length-tab (go n (omega arith))
  where
    go : (m : ℕ) → m ≤ n → rank_by (tab n (λ j. get_or literals j 0)) m o ≡ rank_by literals m o
    go zero h = refl
    go (suc m) h = rw (go m (omega arith), get_d_tab n (λ j. get_or literals j 0) m 0 h)

-- ---- each line stands once, however many lines there are: no two outputs have the same rank

-- a literal tells its line's bit
holds_bit : (literal o q : ℕ) → literal_holds literal o ≡ literal_holds literal q → o / 2 ^ (literal % 8) % 2 ≡ q / 2 ^ (literal % 8) % 2
unfolding literal_holds
holds_bit literal o q e =
    go (o / 2 ^ (literal % 8) % 2) (q / 2 ^ (literal % 8) % 2) (cond (ltb literal 8) 1 0)
    (mod-lt _ (omega arith)) (mod-lt _ (omega arith)) (digit_low (ltb literal 8)) e
  where
    go : (a b w : ℕ) → a < 2 → b < 2 → w ≤ 1 → eqb a w ≡ eqb b w → a ≡ b
    go a b w ha hb hw e =
        by_test (eqb a w)
        (λ t. omega (arith, eqb-true a w t, eqb-true b w (sym e ∙ t)))
        (λ t.
        let x : a ≡ w → ⊥ = eqb-false a w t in
        let y : b ≡ w → ⊥ = eqb-false b w (sym e ∙ t) in
        omega arith)

module _ (literals : List ℕ) (n : ℕ) (size : length literals ≡ n)
    (low : (j : ℕ) → j < n → get_or literals j 0 % 8 < n)
    (once : (i j : ℕ) → i < j → j < n → get_or literals i 0 % 8 ≡ get_or literals j 0 % 8 → ⊥) where
  pub rank_injective : (o q : ℕ) → o < 2 ^ n → q < 2 ^ n → rank literals o ≡ rank literals q → o ≡ q
  unfolding rank
  rank_injective o q ho hq e =
      same_bits n o q ho hq (λ m h.
      let r = onto n (λ j. get_or literals j 0 % 8) low once m h in
      let alike = rank_alike literals n o q (rw size at e) r.0 r.1 in
      rw r.2 at (holds_bit (get_or literals r.0 0) o q alike))

  -- and each number below 2^n is the rank of one
  pub rank_onto : (m : ℕ) → m < 2 ^ n → (o : ℕ) × (o < 2 ^ n) × (rank literals o ≡ m)
  unfolding rank
  rank_onto =
      onto (2 ^ n) (rank literals) (λ o h. rw size (rank_low literals n o))
      (λ o q l h e. absurd (omega (arith, rank_injective o q (omega arith) h e)))

-- ---- what a rank promises

-- the lines in their order, all on
in_order : (n : ℕ) → n ≤ 8 → NamesEach (tab n (λ j. j))
in_order n few =
    record {
      line = λ j h. let k : j < n = rw length-tab at h in rw length-tab (omega (arith, at j k));
      once = λ i j l h e. let k : j < n = rw length-tab at h in omega (arith, at i (omega arith), at j k, e);
    }
  where
    at : (j : ℕ) → j < n → get_or (tab n (λ j. j)) j 0 % 8 ≡ j
    at j h = rw (get_d_tab n (λ j. j) j 0 h) (omega arith)

ranks_follow : RanksFollow rank
ranks_follow =
    record {
      apart = λ literals each. rank_injective literals (length literals) refl each.line each.once;
      named = in_order;
      order = rank_order;
    }

pub ranked : (literals : List ℕ) (count o r : ℕ) → r ≡ rank_by literals count o → Ranked literals count o r
ranked literals count o r e = record { found = e; listed = e ∙ sym (rank-front literals count o); follows = ranks_follow }

-- What a supervisor table means leaves no choice: only one list of bytes means it.
-- Assumes nothing.
use Rattle.std.specs.Prelude.{◌≡◌, List, ℕ, ◌≤◌, ◌<◌, length, get_or}
use Rattle.std.proofs.Common.{sym, ap, ◌∙◌, subst, arith}
use Rattle.std.proofs.Math.Decide.{dec_lt}
use Rattle.records.specs.Meaning.Bits.{bit_at}
use Rattle.records.specs.Laws.Bits.{same_bits}
use Rattle.records.specs.Laws.Lists.{tab_ext, cat_ext}
use Rattle.sheet.specs.Meaning.Decoded.{Decoded}
use Rattle.product.specs.Meaning.Step.{inputs_of, first_tuple}
use Rattle.product.specs.Laws.Ordered.{product_states_once}
use Rattle.supervisor_table.specs.Meaning.SupervisorTable.{mask_row, mask_table}
use Rattle.solve.specs.Meaning.Allowed.{Kept, Lost, Allowed}
use Rattle.supervisor.specs.Promises.SupervisorMaker.{Means}

-- numbers at most 1 of which one is 1 where the other is, and 0 where the other is, are equal
same_flag : (a b : ℕ) → a ≤ 1 → (a ≡ 1 → b ≡ 1) → (a ≡ 0 → b ≡ 0) → a ≡ b
same_flag a b h one none =
    elim (dec_lt a 1) [
      | yes l ↦ let z : a ≡ 0 = omega arith in z ∙ sym (none z)
      | no l ↦ let z : a ≡ 1 = omega arith in z ∙ sym (one z)
    ]

module _ (d : Decoded) {n m : ℕ} {t u : List ℕ} (x : Means d n t) (y : Means d m u) where
  same_tuples : x.tuples ≡ y.tuples
  same_tuples = product_states_once d x.tuples y.tuples x.numbered y.numbered

  same_count : n ≡ m
  same_count = sym x.count ∙ ap length same_tuples ∙ y.count

  module _ (k : ℕ) (hn : k < n) where
    hm : k < m
    hm = omega (arith, same_count)

    -- record k speaks of one tuple in both
    one : get_or x.tuples k (first_tuple d) ≡ get_or y.tuples k (first_tuple d)
    one = ap (λ (l : List (List ℕ)). get_or l k (first_tuple d)) same_tuples

    same_kept : x.kept k ≡ y.kept k
    same_kept =
        same_flag (x.kept k) (y.kept k) (x.flag k hn)
        (λ e. (y.kept_is k hm).1 (subst (Kept d) one ((x.kept_is k hn).0 e)))
        (λ e. (y.lost_is k hm).1 (subst (Lost d) one ((x.lost_is k hn).0 e)))

    module _ (i : ℕ) (hi : i < inputs_of d) where
      -- a bit is 1 in both or in none, where the state is kept
      same_bit : Kept d (get_or x.tuples k (first_tuple d)) → (o : ℕ) → o < 8 → bit_at (x.mask k i) o ≡ bit_at (y.mask k i) o
      same_bit kept o ho =
          let p = x.mask_is k hn kept i o hi ho in
          let q = y.mask_is k hm (subst (Kept d) one kept) i o hi ho in
          let at : Allowed d (get_or x.tuples k (first_tuple d)) i o → Allowed d (get_or y.tuples k (first_tuple d)) i o =
          subst (λ (z : List ℕ). Allowed d z i o) one in
          let back : Allowed d (get_or y.tuples k (first_tuple d)) i o → Allowed d (get_or x.tuples k (first_tuple d)) i o =
          subst (λ (z : List ℕ). Allowed d z i o) (sym one) in
          let low : bit_at (x.mask k i) o < 2 = omega arith in
          let low' : bit_at (y.mask k i) o < 2 = omega arith in
          elim (dec_lt (bit_at (x.mask k i) o) 1) [
            | yes l ↦
                elim (dec_lt (bit_at (y.mask k i) o) 1) [
                  | yes l' ↦ omega arith
                  | no l' ↦ absurd (omega (arith, p.1 (back (q.0 (omega arith)))))
                ]
            | no l ↦ omega (arith, q.1 (at (p.0 (omega arith))))
          ]

      same-mask : x.mask k i ≡ y.mask k i
      same-mask =
          elim (dec_lt (x.kept k) 1) [
            | yes l ↦
                let lost : Lost d (get_or x.tuples k (first_tuple d)) = (x.lost_is k hn).0 (omega arith) in
                x.mask_none k hn lost i hi ∙ sym (y.mask_none k hm (subst (Lost d) one lost) i hi)
            | no l ↦
                let kept : Kept d (get_or x.tuples k (first_tuple d)) = (x.kept_is k hn).0 (omega (arith, x.flag k hn)) in
                same_bits 8 (x.mask k i) (y.mask k i) (x.mask_byte k i hn hi) (y.mask_byte k i hm hi) (same_bit kept)
          ]

    same_row : mask_row (inputs_of d) (x.kept k) (x.mask k) ≡ mask_row (inputs_of d) (y.kept k) (y.mask k)
    unfolding mask_row
    same_row = rw (same_kept, tab_ext (inputs_of d) (x.mask k) (y.mask k) same-mask)

  -- two tables with this meaning are one
  pub only_table : (n ≡ m) × (t ≡ u)
  unfolding mask_table
  only_table =
      let rows = cat_ext n (λ k. mask_row (inputs_of d) (x.kept k) (x.mask k)) (λ k. mask_row (inputs_of d) (y.kept k) (y.mask k))
      same_row in
      (same_count, x.bytes ∙ rw (rows, same_count) (sym y.bytes))

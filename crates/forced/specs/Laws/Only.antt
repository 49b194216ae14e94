-- What the bytes say leaves no choice: only one list of bytes says it.
-- Assumes nothing.
use Rattle.std.specs.Prelude.{◌≡◌, refl, List, ℕ, ◌<◌, length, get_or}
use Rattle.std.proofs.Common.{sym, ap, ◌∙◌, subst, arith}
use Rattle.std.proofs.Math.Decide.{dec_lt, ℕ_discrete}
use Rattle.records.specs.Laws.Lists.{cat_ext}
use Rattle.sheet.specs.Meaning.Decoded.{Decoded}
use Rattle.product.specs.Meaning.Step.{inputs_of, outputs_of, advance, unbroken, BrokenBy, first_tuple}
use Rattle.product.specs.Laws.Ordered.{product_states_once}
use Rattle.game.specs.Laws.Forcing.{forced_once}
use Rattle.forced_rows.specs.Meaning.ForcedBytes.{forced_bytes, forced_answer}
use Rattle.forced_rows.specs.Laws.ForcedRows.{bytes_agree}
use Rattle.solve.specs.Meaning.Allowed.{Kept, Lost}
use Rattle.forced.specs.Meaning.Play.{ForcedFrom}
use Rattle.forced.specs.Promises.ForcedMaker.{ShowsPlay}

module _ (d : Decoded) {n m : ℕ} {a b : List ℕ} (x : ShowsPlay d n a) (y : ShowsPlay d m b) where
  same_tuples : x.tuples ≡ y.tuples
  same_tuples = product_states_once d x.tuples y.tuples x.numbered y.numbered

  same_count : n ≡ m
  same_count = sym x.count ∙ ap length same_tuples ∙ y.count

  -- state k has the same steps and the same input in both
  module _ (k : ℕ) (hn : k < n) where
    hm : k < m
    hm = omega (arith, same_count)

    one : get_or x.tuples k (first_tuple d) ≡ get_or y.tuples k (first_tuple d)
    one = ap (λ (l : List (List ℕ)). get_or l k (first_tuple d)) same_tuples

    same_forced : (x.steps k ≡ y.steps k) × (x.input k ≡ y.input k)
    same_forced =
        elim (dec_lt 0 (x.steps k)) [
          | yes l ↦
              let lost = (x.lost_is k hn).0 l in
              let mine = subst (λ (t : List ℕ). ForcedFrom d t (x.steps k) (x.input k)) one (x.forced k hn lost) in
              forced_once (List ℕ) (inputs_of d) (outputs_of d) (advance d) (unbroken d) mine (y.forced k hm (subst (Lost d) one lost))
          | no l ↦
              let none : x.steps k ≡ 0 = omega arith in
              let kept = (x.kept_is k hn).0 none in
              let kept' = subst (Kept d) one kept in (
                none ∙ sym ((y.kept_is k hm).1 kept'),
                x.kept_input k hn kept ∙ sym (y.kept_input k hm kept'),
              )
        ]

    -- and the same monitors
    same_monitor : (o : ℕ) → o < outputs_of d → x.monitor k o ≡ y.monitor k o
    same_monitor o ho =
        elim (ℕ_discrete (x.steps k) 1) [
          | yes e ↦
              let mine = subst (λ (t : List ℕ). BrokenBy d t (x.input k) o (x.monitor k o)) one ((x.named k o hn ho e _).0 refl) in
              let yours = subst (λ (i : ℕ). BrokenBy d (get_or y.tuples k (first_tuple d)) i o (x.monitor k o)) same_forced.1 mine in
              sym ((y.named k o hm ho (sym same_forced.0 ∙ e) _).1 yours)
          | no e ↦ x.unnamed k o hn ho e ∙ sym (y.unnamed k o hm ho (λ z. e (same_forced.0 ∙ z)))
        ]

    same_bytes : forced_bytes (outputs_of d) (x.steps k) (x.input k) (x.monitor k)
        ≡ forced_bytes (outputs_of d) (y.steps k) (y.input k) (y.monitor k)
    same_bytes = bytes_agree (outputs_of d) (x.monitor k) (y.monitor k) same_forced.0 same_forced.1 same_monitor

  -- two answers that say this are one
  pub only_answer : a ≡ b
  unfolding forced_answer
  only_answer =
      x.bytes_are
      ∙ cat_ext n (λ k. forced_bytes (outputs_of d) (x.steps k) (x.input k) (x.monitor k))
      (λ k. forced_bytes (outputs_of d) (y.steps k) (y.input k) (y.monitor k)) same_bytes
      ∙ rw same_count (sym y.bytes_are)

-- What a step earns: its parts, and how much at most.
-- Assumes nothing.
use Rattle.std.specs.Prelude.{◌≡◌, Bool, ◌&&◌, List, ℕ, ◌+◌, ◌*◌, ◌≤◌, ◌<◌, eqb, length, get_or}
use Rattle.std.proofs.Math.Path.{refl, ap}
use Rattle.std.proofs.Common.{sym}
use Rattle.std.proofs.Math.Bool.{true, false, cond}
use Rattle.std.proofs.Math.Nat.{mul-le-mul, mul-le-mul_right}
use native.Mathlib.Omega.{arith}
use Rattle.records.specs.Meaning.Bounded.{count}
use Rattle.records.specs.Laws.Bounded.{count_le, sum_most}
use Rattle.sheet.specs.Meaning.Decoded.{Decoded, monitor_of, SheetOk}
use Rattle.game.specs.Meaning.Proposal.{proposal}
use Rattle.product.specs.Meaning.Step.{accepts, advance, equal_lines, soft_reward, reward_by, weight_of, reward}
use Rattle.product.specs.Model.Stages.{same_line, match_reward}
use Rattle.product.specs.Laws.Recovery.{soft_kept}

module _ (d : Decoded) where
  pub lines-count : (i o : ℕ) → count d.outputs (same_line o (proposal d.site i)) ≡ equal_lines d i o
  unfolding equal_lines same_line
  lines-count i o = refl

  pub lines_most : (i o : ℕ) → equal_lines d i o ≤ d.outputs
  lines_most i o = rw (← lines-count i o) (count_le d.outputs (same_line o (proposal d.site i)))

module _ (d : Decoded) (ok : SheetOk d) where
  -- a reward has two parts: one of the state after the step, one of the letter
  pub reward_parts : (t : List ℕ) (i o : ℕ)
      → reward d t i o ≡ soft_reward (weight_of d) d (advance d t i o) + match_reward d i o
  unfolding reward reward_by match_reward
  reward_parts t i o = ap (λ (earned : ℕ). earned + match_reward d i o) (sym (soft_kept d t i o ok (weight_of d)))

  pub soft_most : (u : List ℕ) → soft_reward (weight_of d) d u ≤ 1530
  unfolding soft_reward
  soft_most u =
      let terms = sum_most (length d.monitors) 255 _ (λ j h.
      go (eqb (monitor_of d j).role 1 && accepts (monitor_of d j) (get_or u j 0)) (ok.monitor j h).weight_byte) in
      omega (arith, mul-le-mul_right 255 ok.count)
    where
      go : (b : Bool) {w : ℕ} → w < 256 → cond b w 0 ≤ 255
      go true h = omega arith
      go false h = omega arith

  pub match_most : (i o : ℕ) → match_reward d i o ≤ 765
  unfolding match_reward
  match_most i o = go (eqb d.mode 1)
    where
      go : (b : Bool) → cond b (d.matching * equal_lines d i o) 0 ≤ 765
      go true =
          let few : equal_lines d i o ≤ 3 = omega (arith, lines_most d i o, ok.head.outputs_most) in
          let byte : d.matching ≤ 255 = omega (arith, ok.head.matching_byte) in
          omega (arith, mul-le-mul {n₂ = 255} {m₂ = 3} byte few)
      go false = omega arith

  pub reward_most : (t : List ℕ) (i o : ℕ) → reward d t i o ≤ 2295
  reward_most t i o = rw (reward_parts t i o) (omega (arith, soft_most (advance d t i o), match_most i o))

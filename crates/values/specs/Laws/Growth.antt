-- How large values become: after p steps at most p × 2295 for each of inputs ^ p words.
-- Assumes nothing.
use Rattle.std.specs.Prelude.{◌≡◌, Bool, List, length, get_or}
use Rattle.std.proofs.Math.Path.{refl}
use Rattle.std.proofs.Common.{ap, mul-le-mul, mul_left_comm, add-mul, suc-mul}
use Rattle.std.proofs.Math.Bool.{true, false, cond}
use Prim.Native.Nat.{ℕ, zero, suc, ◌+◌, ◌*◌, ◌^◌, ◌≤◌, ◌<◌}
use Rattle.std.proofs.Math.Nat.{mul-le-mul_right, pow-succ', pow-le-pow_right}
use Rattle.std.proofs.Math.Numerals.{add-one}
use native.Mathlib.Omega.{arith}
use Rattle.records.specs.Meaning.Limits.{max_horizon}
use Rattle.records.specs.Meaning.Bounded.{sum}
use Rattle.records.specs.Laws.Bounded.{sum_most, top_le}
use Rattle.records.specs.Model.Lists.{put}
use Rattle.records.specs.Laws.Lists.{put-put, length-put, get_d_put-front}
use Rattle.rounds.specs.Model.TableRounds.{is_in}
use Rattle.values.specs.Model.Values.{Game, SizedGame, may_give, cell_next, earns, score_of, worth, value_row}
use Rattle.values.specs.Model.Sizes.{Valued, best_of}
use Rattle.values.specs.Laws.Sizes.{next_low, cell_letter_low}

-- ---- one step

module _ {g : Game} {n : ℕ} (s : SizedGame g n) where
  pub earns_most : {k i o : ℕ} → k < n → i < g.ins → o < g.outs → may_give g k i o ≡ true → earns g k i o ≤ 2295
  unfolding earns
  earns_most {k} {i} {o} hk hi ho may =
      omega (arith, s.gain (cell_next g k i o) (next_low s hk hi ho may), s.bonus (i + g.ins * o) (cell_letter_low hi ho))

  -- the values that steps lead to are at most b
  module _ (values : List ℕ) (b factor : ℕ) (most : (k : ℕ) → k < n → get_or values k 0 ≤ b) where
    pub score_most : {k i o : ℕ} → k < n → i < g.ins → o < g.outs → may_give g k i o ≡ true
        → score_of g values factor k i o ≤ 2295 * factor + b
    unfolding score_of
    score_most {k} {i} {o} hk hi ho may =
        omega (
          arith,
          mul-le-mul_right factor (earns_most hk hi ho may),
          most (cell_next g k i o) (next_low s hk hi ho may),
        )

    pub best_most : {k i : ℕ} → k < n → i < g.ins → best_of g values factor k i ≤ 2295 * factor + b
    best_most {k} {i} hk hi = top_le g.outs _ _ (2295 * factor + b) (λ o ho may. score_most hk hi ho may)

    pub worth_most : {k : ℕ} → k < n → worth g values factor k ≤ g.ins * (2295 * factor + b)
    unfolding worth
    worth_most {k} hk = go (is_in g.dropped k)
      where
        go : (kept : Bool) → cond kept (sum g.ins (λ i. best_of g values factor k i)) 0 ≤ g.ins * (2295 * factor + b)
        go true = sum_most g.ins (2295 * factor + b) _ (λ i hi. best_most hk hi)
        go false = omega arith

-- ---- the rows

module _ (g : Game) (n : ℕ) (memory : List ℕ) where
  pub row_none : value_row g n memory 0 ≡ put memory n (λ k. 0)
  unfolding value_row
  row_none = refl

  pub row_more : (p : ℕ) → value_row g n memory (p + 1) ≡ put memory n (worth g (value_row g n memory p) (g.ins ^ p))
  unfolding value_row
  row_more p = rw add-one

  pub length-row : (p : ℕ) → length (value_row g n memory p) ≡ length memory
  unfolding value_row
  length-row zero = length-put memory n _
  length-row (suc p) = length-put memory n _

  -- whatever is put over a row leaves nothing of it
  pub row_over : (p : ℕ) (f : ℕ → ℕ) → put (value_row g n memory p) n f ≡ put memory n f
  unfolding value_row
  row_over zero f = put-put memory n _ f
  row_over (suc p) f = put-put memory n _ f

  module _ (room : n ≤ length memory) where
    -- the entry of a state
    pub row_first : (k : ℕ) → k < n → get_or (value_row g n memory 0) k 0 ≡ 0
    unfolding value_row
    row_first k h = get_d_put-front memory n _ k 0 h (omega arith)

    pub row_next : (p k : ℕ) → k < n
        → get_or (value_row g n memory (suc p)) k 0 ≡ worth g (value_row g n memory p) (g.ins ^ p) k
    unfolding value_row
    row_next p k h = get_d_put-front memory n _ k 0 h (omega arith)

    pub row_most_lem : SizedGame g n → (p k : ℕ) → k < n → get_or (value_row g n memory p) k 0 ≤ p * 2295 * g.ins ^ p
    row_most_lem s zero k h = rw (row_first k h) (omega arith)
    row_most_lem s (suc p) k h =
        let words : ℕ = g.ins ^ p in
        let step : get_or (value_row g n memory (suc p)) k 0 ≤ g.ins * (2295 * words + p * 2295 * words) =
        rw (row_next p k h)
        (worth_most s (value_row g n memory p) (p * 2295 * words) words (row_most_lem s p) h) in
        let total : g.ins * (2295 * words + p * 2295 * words) ≡ suc p * 2295 * g.ins ^ suc p =
        rw (pow-succ' g.ins p, ← add-mul 2295 (p * 2295) (g.ins ^ p), mul_left_comm g.ins (2295 + p * 2295) (g.ins ^ p))
        (ap (λ (x : ℕ). x * (g.ins * g.ins ^ p)) (omega (arith, suc-mul p 2295))) in
        omega arith

    -- so values fit over every horizon that the sheet's bounds admit
    pub row_bound : SizedGame g n → (p : ℕ) → p ≤ max_horizon → g.ins ^ p ≤ 2 ^ max_horizon
        → (k : ℕ) → k < n → get_or (value_row g n memory p) k 0 ≤ max_horizon * 2295 * 2 ^ max_horizon
    row_bound s p steps words k h =
        omega (
          arith,
          row_most_lem s p k h,
          mul-le-mul {n₁ = p * 2295} {m₁ = g.ins ^ p} {n₂ = max_horizon * 2295} {m₂ = 2 ^ max_horizon} (omega arith) words,
        )

    pub row_valued : SizedGame g n → (p : ℕ) → p ≤ max_horizon → g.ins ^ p ≤ 2 ^ max_horizon → Valued n (value_row g n memory p) (g.ins ^ p)
    row_valued s p steps words =
        record {
          room = rw (length-row p) room;
          most = λ k h. omega (arith, row_bound s p steps words k h);
          factor_most = words;
        }

-- words of fewer inputs are fewer
pub words_mono : (g : Game) {n : ℕ} → SizedGame g n → {p q : ℕ} → p ≤ q → g.ins ^ q ≤ 2 ^ max_horizon → g.ins ^ p ≤ 2 ^ max_horizon
words_mono g s h most = omega (arith, pow-le-pow_right {n = g.ins} s.inputs_least h)

-- The loops over outputs and over inputs: the best score so far, and the sum of best scores so far.
-- Assumes nothing.
use mathlib.Core.Path.{◌≡◌, ◌∙◌}
use mathlib.Core.Bool.{true, false}
use mathlib.Core.List.{List}
use Rattle.std.specs.Prelude.{Some, None}
use Prim.Native.Nat.{ℕ, ◌+◌, ◌*◌, ◌^◌, ◌≤◌, ◌<◌, max}
use native.Mathlib.Omega.{arith}
use Rattle.records.specs.Meaning.Bounded.{sum}
use Rattle.records.specs.Laws.Bounded.{sum_more, sum_most, top_more}
use Rattle.records.specs.Model.Bounded.{top}
use Rattle.rounds.specs.Model.TableRounds.{is_in}
use Rattle.values.specs.Model.Values.{Game, may_give, score_of, worth}
use Rattle.values.specs.Model.Sizes.{Ready, best_of}
use Rattle.values.specs.Model.Arrivals.{offer_of}
use Rattle.values.specs.Laws.Arrivals.{offered, refused}
use Rattle.values.specs.Laws.Growth.{best_most}

-- the best score of the outputs before o
abbrev pub best_before : Game → List ℕ → ℕ → ℕ → ℕ → ℕ → ℕ
best_before g arrivals factor k i o = top o (may_give g k i) (score_of g arrivals factor k i)

module _ (g : Game) (arrivals : List ℕ) (factor k i o : ℕ) where
  -- and with what output o offers
  pub best_more : {score best best' : ℕ} → Some score ≡ offer_of g arrivals factor k i o
      → best ≡ best_before g arrivals factor k i o → best' ≡ max best score → best' ≡ best_before g arrivals factor k i (o + 1)
  best_more e b m =
      let h = offered g arrivals factor k i o e in m ∙ rw (h.1, b, top_more, h.0)

  pub best_same : None ≡ offer_of g arrivals factor k i o → {best : ℕ} → best ≡ best_before g arrivals factor k i o
      → best ≡ best_before g arrivals factor k i (o + 1)
  best_same e b = let shut = refused g arrivals factor k i o e in b ∙ rw (top_more, shut)

-- ---- the sum over inputs

-- the best scores of the inputs before i
abbrev pub summed : Game → List ℕ → ℕ → ℕ → ℕ → ℕ
summed g arrivals factor k i = sum i (λ j. best_of g arrivals factor k j)

module _ {g : Game} {arrivals : List ℕ} {factor k : ℕ} (ready : Ready g arrivals factor k) where
  summed_most : (i : ℕ) → i ≤ g.ins → summed g arrivals factor k i ≤ 16 * 2 ^ 41
  summed_most i h =
      let v = ready.valued in
      let most : (j : ℕ) → j < i → best_of g arrivals factor k j ≤ 2 ^ 41 = λ j l.
      omega (
        arith,
        best_most ready.sized arrivals (2 ^ 40) factor v.most {i = j} ready.state (omega arith),
        v.factor_most,
      ) in
      omega (arith, sum_most i (2 ^ 41) _ most, ready.sized.inputs_most)

  pub summed_more : {i s best : ℕ} → i < g.ins → s ≡ summed g arrivals factor k i → best ≡ best_of g arrivals factor k i
      → (s + best ≡ summed g arrivals factor k (i + 1)) × (s + best ≤ 16 * 2 ^ 41)
  summed_more {i} {s} {best} h e f =
      let more : s + best ≡ summed g arrivals factor k (i + 1) = rw (e, f, sum_more) in
      (more, omega (arith, summed_most (i + 1) (omega arith)))

pub worth_lost : (g : Game) (arrivals : List ℕ) (factor k : ℕ) → is_in g.dropped k ≡ false → 0 ≡ worth g arrivals factor k
unfolding worth
worth_lost g arrivals factor k e = rw e

pub worth_kept : (g : Game) (arrivals : List ℕ) (factor k : ℕ) {s : ℕ} → is_in g.dropped k ≡ true
    → s ≡ summed g arrivals factor k g.ins → s ≡ worth g arrivals factor k
unfolding worth
worth_kept g arrivals factor k e f = f ∙ rw e

-- One round takes the values over p steps to those over one step more, by either pick; and how large they become.
-- Assumes nothing.
use Rattle.std.specs.Prelude.{◌≡◌, refl, List, length}
use Rattle.std.proofs.Math.Path.{sym, ap}
use Rattle.std.proofs.Common.{◌∙◌, add-one, arith}
use Rattle.std.proofs.Math.Bool.{cond}
use Prim.Native.Nat.{ℕ, zero, suc, ◌+◌, ◌*◌, ◌^◌, ◌≤◌, ◌<◌}
use Rattle.std.proofs.Math.Nat.{mul-le-mul}
use Rattle.std.proofs.Math.ListN.{get_or}
use Rattle.std.proofs.lemmas.List.{length-replicate}
use Rattle.records.specs.Meaning.Limits.{max_horizon}
use Rattle.records.specs.Meaning.Numbers.{zeros}
use Rattle.records.specs.Model.Bounded.{top}
use Rattle.records.specs.Model.Lists.{put}
use Rattle.records.specs.Laws.Bounded.{sum_cong}
use Rattle.records.specs.Laws.Lists.{put-put, put_ext, get_d_put-front}
use Rattle.records.specs.Laws.Tests.{by_test}
use Rattle.game.specs.Model.Extreme.{bottom, Pick}
use Rattle.game.specs.Laws.Extreme.{Picks, largest, value_by_none, value_by_more, least_most}
use Rattle.rounds.specs.Model.TableRounds.{is_in}
use Rattle.values.specs.Model.Values.{Game, SizedGame, may_give, cell_next, earns, score_of, worth, value_row}
use Rattle.values.specs.Model.Sizes.{Valued}
use Rattle.values.specs.Model.Arrivals.{arrival, Prepared}
use Rattle.values.specs.Laws.Sizes.{next_low, next_kept}
use Rattle.values.specs.Laws.Growth.{row_first, row_next, row_bound}
use Rattle.values.specs.Laws.Arrivals.{bare, arrival-score}
use Rattle.outlook.specs.Model.Outlook.{worth_by, table_value}

-- ---- over no steps

pub table_none : (pick : Pick) (g : Game) (k : ℕ) → table_value pick g 0 k ≡ 0
unfolding table_value
table_none pick g k =
    rw (value_by_none ℕ g.ins g.outs (cell_next g) (may_give g) (earns g) pick k) (by_test (is_in g.dropped k) (λ y. rw y) (λ y. rw y))

-- ---- one step more

module _ {R : ℕ → ℕ → Type 0} {pick : Pick} (x : Picks R pick) {g : Game} {n : ℕ} (s : SizedGame g n) where
  -- from what arriving in a state earns and is worth
  worth_arrived : {values arrivals : List ℕ} {factor : ℕ} → Prepared n g.gains values factor arrivals
      → (k : ℕ) → k < n → worth_by pick (bare g) arrivals factor k ≡ worth_by pick g values factor k
  unfolding worth_by may_give
  worth_arrived a k hk =
      ap (λ (y : ℕ). cond (is_in g.dropped k) y 0)
      (sum_cong g.ins _ _ (λ i hi. x.cong g.outs _ _ _ _ (λ o ho. refl) (λ o ho may. arrival-score s a hk hi ho may)))

  -- from the values over p steps
  worth_valued : (p : ℕ) (values : List ℕ) → ((q : ℕ) → q < n → get_or values q 0 ≡ table_value pick g p q)
      → (k : ℕ) → k < n → worth_by pick g values (g.ins ^ p) k ≡ table_value pick g (suc p) k
  unfolding worth_by table_value score_of
  worth_valued p values valued k hk =
      ap (λ (y : ℕ). cond (is_in g.dropped k) y 0)
      (sum_cong g.ins _ _ (λ i hi. x.cong g.outs _ _ _ _ (λ o ho. refl) (λ o ho may.
      ap (λ (y : ℕ). earns g k i o * g.ins ^ p + y)
      (valued (cell_next g k i o) (next_low s hk hi ho may) ∙ rw (next_kept s k i o may))))
      ∙ sym (value_by_more ℕ g.ins g.outs (cell_next g) (may_give g) (earns g) pick p k))

  -- so a round leaves the row for one step more
  pub outlook_more : (memory : List ℕ) → n ≤ length memory → (p : ℕ) {factor : ℕ} {values : List ℕ} → values ≡ put memory n (table_value pick g p)
      → factor ≡ g.ins ^ p → {arrivals : List ℕ} → Prepared n g.gains values factor arrivals
      → {values' : List ℕ} → values' ≡ put values n (worth_by pick (bare g) arrivals factor)
      → values' ≡ put memory n (table_value pick g (p + 1))
  outlook_more memory room p {factor} {values} row words a f =
      let valued : (q : ℕ) → q < n → get_or values q 0 ≡ table_value pick g p q = λ q h.
      rw row (get_d_put-front memory n (table_value pick g p) q 0 h (omega arith)) in
      let worths : (k : ℕ) → k < n → worth_by pick g values factor k ≡ table_value pick g (p + 1) k = λ k h.
      rw (words, add-one) (worth_valued p values valued k h) in
      f
      ∙ put_ext values n _ _ (λ k h. worth_arrived a k h ∙ worths k h)
      ∙ rw row (put-put memory n (table_value pick g p) (table_value pick g (p + 1)))

-- ---- bounds

module _ {g : Game} {n : ℕ} (s : SizedGame g n) where
  -- by the largest they are the rows of value iteration
  best_row : (memory : List ℕ) → n ≤ length memory → (p k : ℕ) → k < n
      → get_or (value_row g n memory p) k 0 ≡ table_value top g p k
  unfolding worth worth_by
  best_row memory room zero k h = row_first g n memory room k h ∙ sym (table_none top g k)
  best_row memory room (suc p) k h =
      row_next g n memory room p k h ∙ worth_valued largest s p _ (λ q l. best_row memory room p q l) k h

  pub least_under : (p k : ℕ) → table_value bottom g p k ≤ table_value top g p k
  unfolding table_value
  least_under p k =
      by_test (is_in g.dropped k)
      (λ y. rw y (least_most ℕ g.ins g.outs (cell_next g) (may_give g) (earns g) p k))
      (λ y. rw y (omega arith))

  -- so they fit over every horizon that the sheet's bounds admit
  module _ (p : ℕ) (steps : p ≤ max_horizon) (words : g.ins ^ p ≤ 2 ^ max_horizon) (k : ℕ) (h : k < n) where
    pub best_bound : table_value top g p k ≤ max_horizon * 2295 * 2 ^ max_horizon
    best_bound =
        let memory : List ℕ = zeros n in
        let room : n ≤ length memory = omega (arith, length-replicate {A = ℕ} n 0) in
        omega (arith, best_row memory room p k h, row_bound g n memory room s p steps words k h)

    pub least_bound : table_value bottom g p k ≤ max_horizon * 2295 * 2 ^ max_horizon
    least_bound = omega (arith, best_bound, least_under p k)

  -- values and arrivals that can be read and fit
  module _ {values : List ℕ} {factor : ℕ} (few : factor ≤ 2 ^ max_horizon)
      (most : (k : ℕ) → k < n → get_or values k 0 ≤ max_horizon * 2295 * 2 ^ max_horizon)
    where
      pub values_fit : n ≤ length values → Valued n values factor
      values_fit room = record { room = room; most = λ k h. omega (arith, most k h); factor_most = few }

      pub arrivals_fit : {arrivals : List ℕ} → Prepared n g.gains values factor arrivals → Valued n arrivals factor
      unfolding arrival
      arrivals_fit a =
          record {
            room = a.room;
            most = λ k h.
                let gain : get_or g.gains k 0 * factor ≤ 1530 * 2 ^ max_horizon =
                mul-le-mul {n₂ = 1530} {m₂ = 2 ^ max_horizon} (s.gain k h) few in
                rw (a.at k h) (omega (arith, most k h));
            factor_most = few;
          }

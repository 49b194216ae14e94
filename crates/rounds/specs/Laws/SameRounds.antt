-- Two tables of steps that agree in their n rows have the same rounds and masks, whatever else the memories hold.
-- Assumes nothing.
use Rattle.std.specs.Prelude.{◌≡◌, eqb, length, get_or}
use Rattle.std.proofs.Math.Path.{sym}
use Rattle.std.proofs.Common.{ap, ◌∙◌, arith}
use mathlib.Core.List.{List}
use Prim.Native.Nat.{ℕ, zero, suc, ◌*◌, ◌≤◌, ◌<◌}
use Rattle.records.specs.Laws.Tests.{by_test}
use Rattle.records.specs.Laws.Bounded.{all_cong, any_cong, sum_cong, count_cong}
use Rattle.records.specs.Laws.Lists.{get_d_put-front}
use Rattle.records.specs.Model.Cells.{is_broken}
use Rattle.rounds.specs.Model.TableRounds.{Steps, is_in, leads_in, answered, stays, entry_after, rounds, settled, kept_count, mask_of}
use Rattle.rounds.specs.Laws.CellPlaces.{cell_in}
use Rattle.rounds.specs.Laws.TableRounds.{round-at, length-rounds}

-- lists with the same first n entries have the same states in
pub in_agree : (n : ℕ) (a b : List ℕ) → ((q : ℕ) → q < n → get_or a q 0 ≡ get_or b q 0) → (q : ℕ) → q < n → is_in a q ≡ is_in b q
unfolding is_in
in_agree n a b same q h = ap (λ (x : ℕ). eqb x 0) (same q h)

-- and as many
pub count_agree : (n : ℕ) (a b : List ℕ) → ((q : ℕ) → q < n → get_or a q 0 ≡ get_or b q 0) → kept_count n a ≡ kept_count n b
unfolding kept_count
count_agree n a b same = count_cong n _ _ (in_agree n a b same)

module _
    {cells : List ℕ} {n ins outs : ℕ} (table : Steps cells n ins outs)
    (others : List ℕ) (same : (at : ℕ) → at < n * (ins * outs) → get_or cells at 0 ≡ get_or others at 0)
  where
    -- the other table leads to the n states too
    pub steps_agree : n * (ins * outs) ≤ length others → Steps others n ins outs
    steps_agree room =
        record {
          rows = room;
          inside = λ at h b. rw (← same at h) (table.inside at h (rw (same at h) b));
        }

    module _ (a b : List ℕ) (entries : (q : ℕ) → q < n → get_or a q 0 ≡ get_or b q 0) where
      -- a cell leads in when the other does
      pub leads_agree : (at : ℕ) → at < n * (ins * outs) → leads_in cells a at ≡ leads_in others b at
      unfolding leads_in
      leads_agree at h =
          rw (← same at h)
          (by_test (is_broken (get_or cells at 0)) (λ y. rw y)
          (λ y. rw y (in_agree n a b entries _ (table.inside at h y))))

      -- so a state stays when it does over the other
      pub stays_agree : (k : ℕ) → k < n → stays cells a ins outs k ≡ stays others b ins outs k
      unfolding stays answered
      stays_agree k h =
          all_cong ins _ _ (λ i hi. any_cong outs _ _ (λ o ho. leads_agree _ (cell_in table h hi ho)))

      -- and a round makes the same entry
      pub entry_agree : (r k : ℕ) → k < n → entry_after cells ins outs r a k ≡ entry_after others ins outs r b k
      unfolding entry_after
      entry_agree r k h = rw (in_agree n a b entries k h, stays_agree k h, entries k h)

      -- the masks are the same
      pub mask_agree : (k i : ℕ) → k < n → i < ins
          → mask_of cells a ins outs k i ≡ mask_of others b ins outs k i
      unfolding mask_of
      mask_agree k i hk hi =
          sum_cong outs _ _ (λ o ho. rw (in_agree n a b entries k hk, leads_agree _ (cell_in table hk hi ho)))

    module _ (memory others-memory : List ℕ) (room : n ≤ length memory) (others-room : n ≤ length others-memory) where
      -- the entries after each round are the same
      pub rounds_agree : (r k : ℕ) → k < n
          → get_or (rounds cells n ins outs memory r) k 0 ≡ get_or (rounds others n ins outs others-memory r) k 0
      unfolding rounds
      rounds_agree zero k h =
          get_d_put-front memory n _ k 0 h (omega arith) ∙ sym (get_d_put-front others-memory n _ k 0 h (omega arith))
      rounds_agree (suc r) k h =
          let a : List ℕ = rounds cells n ins outs memory r in
          let b : List ℕ = rounds others n ins outs others-memory r in
          round-at cells n ins outs (suc r) a (rw (length-rounds cells n ins outs memory r) room) k h
          ∙ entry_agree a b (rounds_agree r) (suc r) k h
          ∙ sym (round-at others n ins outs (suc r) b (rw (length-rounds others n ins outs others-memory r) others-room) k h)

      -- and once they have settled
      pub settled_agree : (k : ℕ) → k < n
          → get_or (settled cells n ins outs memory) k 0 ≡ get_or (settled others n ins outs others-memory) k 0
      unfolding settled
      settled_agree = rounds_agree n

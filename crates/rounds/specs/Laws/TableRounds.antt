-- Laws of the rounds: what a round does, when they end, and what an entry tells.
-- Assumes nothing.
use Rattle.std.specs.Prelude.{◌≡◌, Bool, ◌&&◌, List, ◌⊎◌, length}
use Rattle.std.proofs.Math.Path.{refl, sym, ap}
use Rattle.std.proofs.Common.{◌∙◌, add-suc}
use Rattle.std.proofs.Math.Bool.{true, false, cond, not}
use Rattle.std.proofs.Math.Logic.{⊎_elim, inl, inr}
use Prim.Native.Nat.{ℕ, zero, suc, ◌+◌, ◌-◌, ◌*◌, ◌≤◌, ◌<◌}
use Rattle.std.proofs.Math.Nat.{add-zero}
use Rattle.std.proofs.Math.Numerals.{add-one}
use Rattle.std.proofs.Math.Decide.{dec_lt}
use native.Mathlib.Omega.{arith}
use Rattle.std.proofs.Math.Dec.{eqb}
use Rattle.std.proofs.Math.ListN.{get_or}
use borrow.Author.Tests.{ne_eqb}
use Rattle.records.specs.Laws.Tests.{by_test, and_left, and_right}
use Rattle.records.specs.Laws.Bounded.{all_cong, any_cong, count_le, count_mono, count_tight}
use Rattle.records.specs.Laws.Lists.{put_ext, put_self, length-put, get_d_put-front, get_d_put_rest}
use Rattle.rounds.specs.Laws.CellPlaces.{cell_in}
use Rattle.records.specs.Model.Cells.{is_broken}
use Rattle.rounds.specs.Model.TableRounds.{Steps, is_in, leads_in, answered, stays, entry_after, round, rounds, settled, kept_count}

-- ---- which states count

module _ {cells : List ℕ} {n ins outs : ℕ} (table : Steps cells n ins outs) where
  -- where a step leads depends only on which of the n states are in, and so does whether a state stays
  module _ (a b : List ℕ) (same : (q : ℕ) → q < n → is_in a q ≡ is_in b q) where
    pub leads_cong : (at : ℕ) → at < n * (ins * outs) → leads_in cells a at ≡ leads_in cells b at
    unfolding leads_in
    leads_cong at h =
        by_test (is_broken (get_or cells at 0)) (λ y. rw y) (λ y. rw y (same _ (table.inside at h y)))

    pub stays_cong : (k : ℕ) → k < n → stays cells a ins outs k ≡ stays cells b ins outs k
    unfolding stays answered
    stays_cong k h =
        all_cong ins _ _ (λ i hi. any_cong outs _ _ (λ o ho. leads_cong _ (cell_in table h hi ho)))

-- ---- one round

module _ (cells : List ℕ) (n ins outs : ℕ) where
  -- each state that is in stays: a round drops nothing
  abbrev pub Stable : List ℕ → Type 0
  Stable d = (k : ℕ) → k < n → is_in d k ≡ true → stays cells d ins outs k ≡ true

  -- a round adds no entry and takes none away
  pub length-round : (r : ℕ) (d : List ℕ) → length (round cells n ins outs r d) ≡ length d
  unfolding round
  length-round r d = length-put d n _

  -- what it leaves at each of the n entries
  pub round-at : (r : ℕ) (d : List ℕ) → n ≤ length d → (k : ℕ) → k < n
      → get_or (round cells n ins outs r d) k 0 ≡ entry_after cells ins outs r d k
  unfolding round
  round-at r d room k h = get_d_put-front d n _ k 0 h (omega arith)

  -- an entry after a round, and whether the state is in
  pub entry_in : (r : ℕ) (d : List ℕ) (k : ℕ)
      → eqb (entry_after cells ins outs (suc r) d k) 0 ≡ is_in d k && stays cells d ins outs k
  unfolding entry_after is_in
  entry_in r d k = go (is_in d k) (stays cells d ins outs k) refl
    where
      go : (a b : Bool) → is_in d k ≡ a → eqb (cond (a && not b) (suc r) (get_or d k 0)) 0 ≡ a && b
      go true true e = e
      go true false e = ne_eqb (suc r) 0 (λ z. omega arith)
      go false b e = e

  -- a state is in after a round if it was in and stays
  pub in_round : (r : ℕ) (d : List ℕ) → n ≤ length d → (k : ℕ) → k < n
      → is_in (round cells n ins outs (suc r) d) k ≡ is_in d k && stays cells d ins outs k
  unfolding is_in
  in_round r d room k h = rw (round-at (suc r) d room k h) (entry_in r d k)

  -- a round drops states and takes none back
  pub fewer : (r : ℕ) (d : List ℕ) → n ≤ length d → kept_count n (round cells n ins outs (suc r) d) ≤ kept_count n d
  unfolding kept_count
  fewer r d room = count_mono n _ _ (λ k h e. and_left _ _ (sym (in_round r d room k h) ∙ e))

  -- where a round keeps as many, nothing was to drop
  pub quiet_stable : (r : ℕ) (d : List ℕ) → n ≤ length d
      → kept_count n d ≤ kept_count n (round cells n ins outs (suc r) d) → Stable d
  unfolding kept_count
  quiet_stable r d room le = λ k h e.
      and_right (is_in d k) _
      (sym (in_round r d room k h)
      ∙ count_tight n _ _ (λ j u v. and_left (is_in d j) _ (sym (in_round r d room j u) ∙ v)) le k h e)

  -- where nothing is to drop, a round of any number leaves all as it is
  pub stable_round : (r : ℕ) (d : List ℕ) → Stable d → round cells n ins outs r d ≡ d
  unfolding round entry_after
  stable_round r d stable = put_ext d n _ _ (λ k h. go k (is_in d k) (stable k h)) ∙ put_self d n
    where
      go : (k : ℕ) (a : Bool) → (a ≡ true → stays cells d ins outs k ≡ true)
          → cond (a && not (stays cells d ins outs k)) r (get_or d k 0) ≡ get_or d k 0
      go k true f = rw (f refl)
      go k false f = refl

-- ---- all rounds

module _ (cells : List ℕ) (n ins outs : ℕ) (memory : List ℕ) where
  -- the entries after r rounds
  abbrev after : ℕ → List ℕ
  after r = rounds cells n ins outs memory r

  -- none is added or lost
  pub length-rounds : (r : ℕ) → length (after r) ≡ length memory
  unfolding rounds
  length-rounds zero = length-put memory n _
  length-rounds (suc r) = length-round cells n ins outs (suc r) _ ∙ length-rounds r

  -- what stands past the n entries is as it was
  pub rounds_rest : (r k e : ℕ) → n ≤ k → get_or (after r) k e ≡ get_or memory k e
  unfolding rounds round
  rounds_rest zero k e h = get_d_put_rest memory n _ k e h
  rounds_rest (suc r) k e h = get_d_put_rest _ n _ k e h ∙ rounds_rest r k e h

  -- the rounds after one that drops nothing change nothing
  pub stable_late : (r : ℕ) → Stable cells n ins outs (after r) → (j : ℕ) → after (r + j) ≡ after r
  unfolding rounds
  stable_late r stable zero = rw add-zero
  stable_late r stable (suc j) =
      rw (add-suc, stable_late r stable j) (stable_round cells n ins outs (suc (r + j)) _ stable)

  -- the same of the rounds to their end
  pub length-settled : length (settled cells n ins outs memory) ≡ length memory
  unfolding settled
  length-settled = length-rounds n

  pub settled_rest : (k e : ℕ) → n ≤ k → get_or (settled cells n ins outs memory) k e ≡ get_or memory k e
  unfolding settled
  settled_rest = rounds_rest n

  -- if round r + 1 drops nothing, the rounds end with r
  pub stable_settled : (r : ℕ) → r ≤ n → Stable cells n ins outs (after r) → after r ≡ settled cells n ins outs memory
  unfolding settled
  stable_settled r h stable =
      let e : n ≡ r + (n - r) = omega arith in
      sym (stable_late r stable (n - r)) ∙ ap after (sym e)

  module _ (room : n ≤ length memory) where
    room_after : (r : ℕ) → n ≤ length (after r)
    room_after r = rw (length-rounds r) room

    first_at_lem : (k : ℕ) → k < n → get_or (after 0) k 0 ≡ 0
    unfolding rounds
    first_at_lem k h = get_d_put-front memory n _ k 0 h (omega arith)

    next_at_lem : (r k : ℕ) → k < n → get_or (after (suc r)) k 0 ≡ entry_after cells ins outs (suc r) (after r) k
    unfolding rounds
    next_at_lem r k h = round-at cells n ins outs (suc r) _ (room_after r) k h

    -- all states are in at first
    pub in_first : (k : ℕ) → k < n → is_in (after 0) k ≡ true
    unfolding is_in
    in_first k h = rw (first_at_lem k h)

    -- and after one round more those that were in and stay
    pub in_next : (r k : ℕ) → k < n → is_in (after (suc r)) k ≡ is_in (after r) k && stays cells (after r) ins outs k
    unfolding rounds
    in_next r k h = in_round cells n ins outs r _ (room_after r) k h

    -- an entry is at most the number of rounds made
    pub entry_most : (r k : ℕ) → k < n → get_or (after r) k 0 ≤ r
    unfolding entry_after
    entry_most zero k h = rw (first_at_lem k h) (omega arith)
    entry_most (suc r) k h =
        rw (next_at_lem r k h)
        (by_test (is_in (after r) k && not (stays cells (after r) ins outs k))
        (λ y. rw y (omega arith)) (λ y. rw y (omega (arith, entry_most r k h))))

    -- an entry r + 1 says: in after r rounds, and dropped by the next
    pub entry_says : (m r k : ℕ) → k < n → get_or (after m) k 0 ≡ suc r
        → (is_in (after r) k ≡ true) × (is_in (after (suc r)) k ≡ false)
    unfolding entry_after
    entry_says zero r k h e = absurd (omega (arith, entry_most 0 k h))
    entry_says (suc m) r k h e =
        go (is_in (after m) k) (stays cells (after m) ins outs k) refl refl (entry_says m r k h) (sym (next_at_lem m k h) ∙ e)
      where
        go : (a b : Bool) → is_in (after m) k ≡ a → stays cells (after m) ins outs k ≡ b
            → (get_or (after m) k 0 ≡ suc r → (is_in (after r) k ≡ true) × (is_in (after (suc r)) k ≡ false))
            → cond (a && not b) (suc m) (get_or (after m) k 0) ≡ suc r
            → (is_in (after r) k ≡ true) × (is_in (after (suc r)) k ≡ false)
        go true false p q earlier f =
            let same : m ≡ r = omega arith in
            (rw (← same) p, rw (← same) (in_next m k h ∙ rw (p, q)))
        go true true p q earlier f = earlier f
        go false b p q earlier f = earlier f

    -- each round but the last drops a state
    one_less : (r : ℕ) → kept_count n (after r) + r ≤ n
        → Stable cells n ins outs (after r) ⊎ (kept_count n (after (suc r)) + suc r ≤ n)
    unfolding rounds
    one_less r h =
        elim (dec_lt (kept_count n (after (suc r))) (kept_count n (after r))) [
          | yes l ↦ inr (omega arith)
          | no g ↦ inl (quiet_stable cells n ins outs r (after r) (room_after r) (omega arith))
        ]

    enough : (r : ℕ) → Stable cells n ins outs (after r) ⊎ (kept_count n (after (suc r)) + suc r ≤ n)
    unfolding kept_count
    enough zero = one_less 0 (omega (arith, count_le n (is_in (after 0))))
    enough (suc r) =
        ⊎_elim (λ s. inl (rw (← add-one r, stable_late r s 1) s)) (one_less (suc r)) (enough r)

    -- after n rounds nothing is dropped any more
    pub settled_stable : Stable cells n ins outs (settled cells n ins outs memory)
    unfolding settled
    settled_stable = ⊎_elim (λ s. s) (λ l. absurd (omega arith)) (enough n)

    -- and more rounds change nothing
    pub rounds_late : (r : ℕ) → n ≤ r → after r ≡ settled cells n ins outs memory
    unfolding settled
    rounds_late r h = let e : r ≡ n + (r - n) = omega arith in rw e (stable_late n settled_stable (r - n))

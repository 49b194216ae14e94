-- The rows of the answer: their format and length, the input and the monitors that they name, and that memories which agree give the
-- same rows.
-- Assumes nothing.
use Rattle.std.specs.Prelude.{◌≡◌, Bool, true, false, cond, ◌||◌, List, ℕ, ◌+◌, ◌*◌, ◌≤◌, ◌<◌, eqb, ltb, leb, length, get_or}
use Rattle.std.proofs.Math.Path.{refl, ap}
use Rattle.std.proofs.Common.{sym, ◌∙◌, arith, ltb-true, ltb-false, le-leb, eq-eqb, ne_eqb}
use Rattle.std.proofs.Math.Bool.{not}
use Rattle.std.proofs.lemmas.Bool.{lt-leb}
use Rattle.records.specs.Meaning.Lists.{cat}
use Rattle.records.specs.Meaning.Bounded.{Lowest}
use Rattle.records.specs.Model.Bounded.{least}
use Rattle.records.specs.Model.Cells.{broken_cell}
use Rattle.records.specs.Laws.Bounded.{any_cong, least_lowest, least_cong}
use Rattle.records.specs.Laws.Cells.{mark_broken, mark_monitor}
use Rattle.records.specs.Laws.Lists.{length-tab, tab_ext, get_d_put-front, length-cat}
use Rattle.records.specs.Laws.Tests.{by_test, or_right}
use Rattle.rounds.specs.Model.TableRounds.{Steps, cell_at, is_in, answered}
use Rattle.rounds.specs.Laws.CellPlaces.{cell_in}
use Rattle.rounds.specs.Laws.SameRounds.{in_agree, leads_agree}
use Rattle.forced_rows.specs.Meaning.ForcedBytes.{forced_bytes, forced_answer, forced_length, no_breaker}
use Rattle.forced_rows.specs.Model.ForcedRows.{before_round, forces_at, forcing_input, breaker_in, breaker_at, forced_row}

-- ---- the format

module _ (cells dropped : List ℕ) (ins outs : ℕ) where
  pub length-forced_row : (k : ℕ) → length (forced_row cells dropped ins outs k) ≡ 3 + outs
  unfolding forced_row forced_bytes
  length-forced_row k = omega (arith, length-tab outs (breaker_at cells dropped ins outs k (forcing_input cells dropped ins outs k)))

  -- the rows are the answer that says for each state its round, its input and the monitors that the outputs break
  pub rows_answer : (n : ℕ)
      → cat n (forced_row cells dropped ins outs)
      ≡ forced_answer outs n (λ k. get_or dropped k 0) (forcing_input cells dropped ins outs)
      (λ k. breaker_at cells dropped ins outs k (forcing_input cells dropped ins outs k))
  unfolding forced_row forced_answer
  rows_answer n = refl

  pub length_forced_rows : (n : ℕ) → length (cat n (forced_row cells dropped ins outs)) ≡ forced_length outs n
  unfolding forced_length
  length_forced_rows n = length-cat (3 + outs) n (forced_row cells dropped ins outs) (λ k h. length-forced_row k)

-- only what is said of the output values counts
pub bytes_agree : (outs : ℕ) {steps steps' input input' : ℕ} (f g : ℕ → ℕ) → steps ≡ steps' → input ≡ input'
    → ((o : ℕ) → o < outs → f o ≡ g o) → forced_bytes outs steps input f ≡ forced_bytes outs steps' input' g
unfolding forced_bytes
bytes_agree outs f g e h each = rw (e, h, tab_ext outs f g each)

-- ---- the monitors

-- the mark of a monitor names it
pub breaker_marked : (j : ℕ) → breaker_in (broken_cell j) ≡ j
unfolding breaker_in
breaker_marked j = rw (mark_broken j) (mark_monitor j)

module _ (cells dropped : List ℕ) (ins outs k i o : ℕ) where
  -- one step from its end a state has the monitor that the cell names
  pub breaker_one : get_or dropped k 0 ≡ 1
      → breaker_at cells dropped ins outs k i o ≡ breaker_in (get_or cells (cell_at ins outs k i o) 0)
  unfolding breaker_at
  breaker_one e = rw (eq-eqb (get_or dropped k 0) 1 e)

  -- another has none
  pub breaker_else : (get_or dropped k 0 ≡ 1 → ⊥) → breaker_at cells dropped ins outs k i o ≡ no_breaker
  unfolding breaker_at
  breaker_else ne = rw (ne_eqb (get_or dropped k 0) 1 ne)

-- ---- the states that were in before a round

before_at : (r : ℕ) (dropped : List ℕ) (k : ℕ) → k < length dropped
    → get_or (before_round r dropped) k 0 ≡ cond (ltb (get_or dropped k 0) r) (get_or dropped k 0) 0
unfolding before_round
before_at r dropped k h = get_d_put-front dropped (length dropped) _ k 0 h h

-- the kept ones, and those that it or a later round dropped
pub before_in : (r : ℕ) (dropped : List ℕ) (k : ℕ) → k < length dropped
    → is_in (before_round r dropped) k ≡ eqb (get_or dropped k 0) 0 || leb r (get_or dropped k 0)
unfolding is_in
before_in r dropped k h =
    let by : ℕ = get_or dropped k 0 in
    rw (before_at r dropped k h)
    (by_test (ltb by r)
    (λ y. rw (y, lt-leb r by (ltb-true by r y)) (none (eqb by 0)))
    (λ y. rw y (sym (or_right (eqb by 0) (leb r by) (le-leb r by (ltb-false by r y))))))
  where
    none : (b : Bool) → b ≡ b || false
    none true = refl
    none false = refl

-- ---- the lowest input

module _ (cells dropped : List ℕ) (ins outs k : ℕ) where
  -- a kept state gets 0
  pub forcing_kept : is_in dropped k ≡ true → forcing_input cells dropped ins outs k ≡ 0
  unfolding forcing_input
  forcing_kept kept = rw kept

  -- another the lowest input that forces, if there is one
  pub forcing_lost : is_in dropped k ≡ false → forcing_input cells dropped ins outs k ≡ least ins (forces_at cells dropped ins outs k)
  unfolding forcing_input
  forcing_lost lost = rw lost

  pub forcing_lowest : is_in dropped k ≡ false → (i : ℕ) → i < ins → forces_at cells dropped ins outs k i ≡ true
      → Lowest (forces_at cells dropped ins outs k) ins (forcing_input cells dropped ins outs k)
  forcing_lowest lost i h e = rw (forcing_lost lost) (least_lowest ins (forces_at cells dropped ins outs k) i h e)

-- ---- memories that agree in the n states

module _
    {cells : List ℕ} {n ins outs : ℕ} (table : Steps cells n ins outs)
    (others : List ℕ) (same : (at : ℕ) → at < n * (ins * outs) → get_or cells at 0 ≡ get_or others at 0)
    (a b : List ℕ) (entries : (q : ℕ) → q < n → get_or a q 0 ≡ get_or b q 0) (room : n ≤ length a) (others-room : n ≤ length b)
  where
    before_agree : (r q : ℕ) → q < n → get_or (before_round r a) q 0 ≡ get_or (before_round r b) q 0
    before_agree r q h =
        before_at r a q (omega arith)
        ∙ ap (λ (x : ℕ). cond (ltb x r) x 0) (entries q h)
        ∙ sym (before_at r b q (omega arith))

    forces_agree : (k i : ℕ) → k < n → i < ins → forces_at cells a ins outs k i ≡ forces_at others b ins outs k i
    unfolding forces_at answered
    forces_agree k i hk hi =
        rw (entries k hk)
        (ap not (any_cong outs _ _ (λ o ho.
        leads_agree table others same (before_round (get_or b k 0) a) (before_round (get_or b k 0) b) (before_agree (get_or b k 0)) _
        (cell_in table hk hi ho))))

    pub forcing_agree : (k : ℕ) → k < n → forcing_input cells a ins outs k ≡ forcing_input others b ins outs k
    unfolding forcing_input
    forcing_agree k h = rw (in_agree n a b entries k h, least_cong ins _ _ (λ i hi. forces_agree k i h hi))

    breaker_agree : (k i : ℕ) → k < n → i < ins → (o : ℕ) → o < outs
        → breaker_at cells a ins outs k i o ≡ breaker_at others b ins outs k i o
    unfolding breaker_at
    breaker_agree k i hk hi o ho = rw (entries k hk, same _ (cell_in table hk hi ho))

    -- the rows are the same
    pub forced_agree : (k : ℕ) → k < n → forcing_input cells a ins outs k < ins
        → forced_row cells a ins outs k ≡ forced_row others b ins outs k
    unfolding forced_row
    forced_agree k h low =
        bytes_agree outs _ _ (entries k h) (forcing_agree k h) (λ o ho.
        breaker_agree k (forcing_input cells a ins outs k) h low o ho
        ∙ ap (λ (i : ℕ). breaker_at others b ins outs k i o) (forcing_agree k h))

-- The table of steps of a sheet, and what its entries mean: kept, lost and allowed.
-- Assumes nothing.
use Rattle.std.specs.Prelude.{◌≡◌, ◌↔◌, true, false, List, ℕ, zero, suc, ◌+◌, ◌-◌, ◌*◌, ◌/◌, ◌%◌, ◌≤◌, ◌<◌, length, get_or}
use Rattle.std.proofs.Math.Path.{sym, ap}
use Rattle.std.proofs.Common.{◌∙◌, subst, div-lt_iff_lt-mul, arith}
use Rattle.std.proofs.Math.Bool.{not}
use Rattle.std.proofs.Math.Nat.{mod-lt}
use Rattle.std.proofs.Math.Arith.{digits_lt, digits_div, digits_mod}
use Rattle.std.proofs.Math.Dec.{eqb}
use Rattle.std.proofs.Math.ListN.{length-replicate}
use Rattle.std.proofs.lemmas.Bool.{not-true}
use Rattle.records.specs.Laws.Tests.{by_test}
use Rattle.records.specs.Meaning.Limits.{max_states}
use Rattle.records.specs.Laws.Lists.{get_d_tab, length-tab}
use Rattle.records.specs.Meaning.Numbers.{zeros}
use Rattle.sheet.specs.Meaning.Decoded.{Decoded}
use Rattle.product.specs.Meaning.Step.{inputs_of, outputs_of, advance, broken, unbroken, BrokenBy, first_tuple}
use Rattle.product.specs.Model.States.{letters_of}
use Rattle.product.specs.Meaning.States.{Reached}
use Rattle.product.specs.Model.ProductNumbering.{state_count, state_of, number_of, cell_of}
use Rattle.product.specs.Laws.ProductNumbering.{reached_number, number_state, state_number, state_reached, step_number_lem, quiet_round}
use Rattle.product.specs.Laws.Outcome.{cell_whole, cell_marked, cell_breaks}
use Rattle.game.specs.Model.Rounds.{kept_after, dropped_by, may, Quiet}
use Rattle.game.specs.Laws.Rounds.{quiet_on, kept_dropped, kept_iff, lost_iff, allowed_iff}
use Rattle.game.specs.Laws.Naming.{Names, dropped_named}
use Rattle.game.specs.Laws.Reachable.{letter_low, letter_input, letter_output, input_low, output_low, reachable_closed}
use Rattle.records.specs.Model.Cells.{broken_cell, is_broken}
use Rattle.rounds.specs.Model.TableRounds.{Steps, cell_at, is_in, leads_in, rounds, settled}
use Rattle.rounds.specs.Laws.TableRounds.{length-rounds}
use Rattle.solve.specs.Meaning.Allowed.{Kept, Lost, Allowed}
use Rattle.solve.specs.Model.Steps.{cells_of, dropped_of}
use Rattle.solve.specs.Laws.NumberedGame.{goes, passes, leads_game, rounds-game}

-- a table with a place in it has rows that are not empty
pub some_letter : (n L at : ℕ) → at < n * L → 0 < L
some_letter n zero at h = absurd (omega arith)
some_letter n (suc L) at h = omega arith

module _ (d : Decoded) where
  -- ---- the cells

  -- the cell of a state, an input and an output
  pub cell_is : (k i o : ℕ) → k < state_count d → i < inputs_of d → o < outputs_of d
      → get_or (cells_of d) (cell_at (inputs_of d) (outputs_of d) k i o) 0 ≡ cell_of d k i o
  unfolding cells_of cell_at
  cell_is k i o hk hi ho =
      let low : i + inputs_of d * o < letters_of d = letter_low (inputs_of d) (outputs_of d) i o hi ho in
      get_d_tab (state_count d * letters_of d) _ (k * letters_of d + (i + inputs_of d * o)) 0 (digits_lt hk low)
      ∙ rw (digits_div k low, digits_mod k low, letter_input (inputs_of d) i o hi, letter_output (inputs_of d) i o hi)

  -- a step that is not broken leads to the number of the next tuple, and a broken one is marked
  whole_is : (k i o : ℕ) → broken d (state_of d k) i o ≡ false → cell_of d k i o ≡ number_of d (advance d (state_of d k) i o)
  unfolding cell_of
  whole_is k i o e = cell_whole d (state_of d k) i o _ e

  pub mark_is : (k i o : ℕ) {j : ℕ} → k < state_count d → i < inputs_of d → o < outputs_of d → BrokenBy d (state_of d k) i o j
      → get_or (cells_of d) (cell_at (inputs_of d) (outputs_of d) k i o) 0 ≡ broken_cell j
  unfolding cell_of
  mark_is k i o hk hi ho b = cell_is k i o hk hi ho ∙ cell_marked d (state_of d k) i o _ b

  -- the rounds have an entry for each state
  pub length_dropped : length (dropped_of d) ≡ state_count d
  unfolding dropped_of settled
  length_dropped =
      length-rounds (cells_of d) (state_count d) (inputs_of d) (outputs_of d) (zeros (state_count d)) (state_count d)
      ∙ length-replicate (state_count d) 0

  module _ (fits : state_count d ≤ max_states) where
    -- a cell is broken exactly if its step is, and else holds a state's number
    broken_is : (k i o : ℕ) → k < state_count d → i < inputs_of d → o < outputs_of d
        → is_broken (cell_of d k i o) ≡ broken d (state_of d k) i o
    unfolding cell_of
    broken_is k i o hk hi ho =
        cell_breaks d (state_of d k) i o _ (λ e. omega (arith, (step_number_lem d fits k i o hk hi ho (ap not e)).0))

    cell_in_range : (k i o : ℕ) → k < state_count d → i < inputs_of d → o < outputs_of d
        → is_broken (cell_of d k i o) ≡ false → cell_of d k i o < state_count d
    cell_in_range k i o hk hi ho e =
        let whole : broken d (state_of d k) i o ≡ false = sym (broken_is k i o hk hi ho) ∙ e in
        rw (whole_is k i o whole) (step_number_lem d fits k i o hk hi ho (ap not whole)).0

    -- the cells are a table of steps
    pub sheet_steps : Steps (cells_of d) (state_count d) (inputs_of d) (outputs_of d)
    unfolding cells_of
    sheet_steps =
        record {
          rows = rw length-tab (omega arith);
          inside = λ at h.
              let some : 0 < letters_of d = some_letter (state_count d) (letters_of d) at h in
              let low : at % letters_of d < letters_of d = mod-lt at some in
              rw get_d_tab
              (cell_in_range (at / letters_of d) (at % letters_of d % inputs_of d) (at % letters_of d / inputs_of d)
              ((div-lt_iff_lt-mul some).1 h) (input_low (inputs_of d) (outputs_of d) _ low) (output_low (inputs_of d) (outputs_of d) _ low));
        }

    -- a step of the table is unbroken when the tuples' is
    pass_is : (k i o : ℕ) → k < state_count d → i < inputs_of d → o < outputs_of d
        → passes (cells_of d) (inputs_of d) (outputs_of d) k i o ≡ unbroken d (state_of d k) i o
    unfolding passes goes
    pass_is k i o hk hi ho = rw (cell_is k i o hk hi ho) (ap not (broken_is k i o hk hi ho))

    -- and leads to the number of the next tuple
    goes_is : (k i o : ℕ) → k < state_count d → i < inputs_of d → o < outputs_of d
        → passes (cells_of d) (inputs_of d) (outputs_of d) k i o ≡ true
        → goes (cells_of d) (inputs_of d) (outputs_of d) k i o ≡ number_of d (advance d (state_of d k) i o)
    unfolding goes
    goes_is k i o hk hi ho e =
        cell_is k i o hk hi ho ∙ whole_is k i o (not-true (broken d (state_of d k) i o) (sym (pass_is k i o hk hi ho) ∙ e))

    -- the numbers are names of the tuples
    pub numbers_name : Names ℕ (List ℕ) (inputs_of d) (outputs_of d)
        (goes (cells_of d) (inputs_of d) (outputs_of d)) (advance d)
        (passes (cells_of d) (inputs_of d) (outputs_of d)) (unbroken d)
        (λ k. k < state_count d) (state_of d)
    numbers_name =
        record {
          tests = pass_is;
          inside = λ k i o hk hi ho e.
              rw (goes_is k i o hk hi ho e) (step_number_lem d fits k i o hk hi ho (sym (pass_is k i o hk hi ho) ∙ e)).0;
          lands = λ k i o hk hi ho e.
              rw (goes_is k i o hk hi ho e) (step_number_lem d fits k i o hk hi ho (sym (pass_is k i o hk hi ho) ∙ e)).1;
        }

    -- ---- the rounds

    -- an entry after r rounds is the round that dropped the tuple
    pub entry_dropped : (memory : List ℕ) → state_count d ≤ length memory → (r k : ℕ) → k < state_count d
        → get_or (rounds (cells_of d) (state_count d) (inputs_of d) (outputs_of d) memory r) k 0
        ≡ dropped_by (List ℕ) (inputs_of d) (outputs_of d) (advance d) (unbroken d) r (state_of d k)
    entry_dropped memory room r k h =
        rounds-game sheet_steps memory room r k h
        ∙ dropped_named ℕ (List ℕ) (inputs_of d) (outputs_of d) (goes (cells_of d) (inputs_of d) (outputs_of d)) (advance d)
        (passes (cells_of d) (inputs_of d) (outputs_of d)) (unbroken d) (λ q. q < state_count d) (state_of d) numbers_name r k h

    -- so the entries of the table are
    pub dropped_is : (k : ℕ) → k < state_count d
        → get_or (dropped_of d) k 0
        ≡ dropped_by (List ℕ) (inputs_of d) (outputs_of d) (advance d) (unbroken d) (state_count d) (state_of d k)
    unfolding dropped_of settled
    dropped_is = entry_dropped (zeros (state_count d)) (omega (arith, length-replicate {A = ℕ} (state_count d) 0)) (state_count d)

    -- a state is in when its tuple is kept after as many rounds as there are states
    pub in_kept : (k : ℕ) → k < state_count d
        → is_in (dropped_of d) k ≡ kept_after (List ℕ) (inputs_of d) (outputs_of d) (advance d) (unbroken d) (state_count d) (state_of d k)
    unfolding is_in
    in_kept k h =
        ap (λ (x : ℕ). eqb x 0) (dropped_is k h)
        ∙ sym (kept_dropped (List ℕ) (inputs_of d) (outputs_of d) (advance d) (unbroken d) (state_count d) (state_of d k))

    -- and no later round drops a tuple
    pub settled_quiet : Quiet (List ℕ) (inputs_of d) (outputs_of d) (advance d) (unbroken d) (Reached d) (state_count d)
    settled_quiet =
        let q = quiet_round d fits in
        let h : q.0 ≤ state_count d = q.1 in
        let whole : q.0 + (state_count d - q.0) ≡ state_count d = omega arith in
        subst (Quiet (List ℕ) (inputs_of d) (outputs_of d) (advance d) (unbroken d) (Reached d)) whole
        (quiet_on (List ℕ) (inputs_of d) (outputs_of d) (advance d) (unbroken d) (Reached d)
        (reachable_closed (List ℕ) (inputs_of d) (outputs_of d) (advance d) (unbroken d) (first_tuple d)) q.0 q.2 (state_count d - q.0))

    -- ---- what the entries mean

    -- the same of a tuple's number
    number_kept : (t : List ℕ) → Reached d t
        → is_in (dropped_of d) (number_of d t) ≡ kept_after (List ℕ) (inputs_of d) (outputs_of d) (advance d) (unbroken d) (state_count d) t
    number_kept t r =
        in_kept (number_of d t) ((reached_number d fits t).0 r)
        ∙ ap (kept_after (List ℕ) (inputs_of d) (outputs_of d) (advance d) (unbroken d) (state_count d)) (number_state d fits t r)

    -- a state is in exactly if every number of inputs can be survived from its tuple
    pub in_iff : (t : List ℕ) → Reached d t → (is_in (dropped_of d) (number_of d t) ≡ true) ↔ Kept d t
    in_iff t r =
        let x = kept_iff (List ℕ) (inputs_of d) (outputs_of d) (advance d) (unbroken d) (Reached d)
        (reachable_closed (List ℕ) (inputs_of d) (outputs_of d) (advance d) (unbroken d) (first_tuple d)) (state_count d) settled_quiet t r in
        (λ e. x.0 (sym (number_kept t r) ∙ e), λ k. number_kept t r ∙ x.1 k)

    -- and is dropped exactly if some number cannot
    pub out_iff : (t : List ℕ) → Reached d t → (is_in (dropped_of d) (number_of d t) ≡ false) ↔ Lost d t
    out_iff t r =
        let x = lost_iff (List ℕ) (inputs_of d) (outputs_of d) (advance d) (unbroken d) (Reached d)
        (reachable_closed (List ℕ) (inputs_of d) (outputs_of d) (advance d) (unbroken d) (first_tuple d)) (state_count d) settled_quiet t r in
        (λ e. x.0 (sym (number_kept t r) ∙ e), λ k. number_kept t r ∙ x.1 k)

    -- the same of the tuple of a number
    pub state_in : (k : ℕ) → k < state_count d → (is_in (dropped_of d) k ≡ true) ↔ Kept d (state_of d k)
    state_in k h = rw (state_number d fits k h) at (in_iff (state_of d k) (state_reached d k h))

    pub state_out : (k : ℕ) → k < state_count d → (is_in (dropped_of d) k ≡ false) ↔ Lost d (state_of d k)
    state_out k h = rw (state_number d fits k h) at (out_iff (state_of d k) (state_reached d k h))

    -- where the states that are in are those kept after r rounds, a step of the table leads in when its output may be given after as many
    pub leads_after : (l : List ℕ) (r : ℕ)
        → ((q : ℕ) → q < state_count d
        → is_in l q ≡ kept_after (List ℕ) (inputs_of d) (outputs_of d) (advance d) (unbroken d) r (state_of d q))
        → (k i o : ℕ) → k < state_count d → i < inputs_of d → o < outputs_of d
        → leads_in (cells_of d) l (cell_at (inputs_of d) (outputs_of d) k i o)
        ≡ may (List ℕ) (inputs_of d) (outputs_of d) (advance d) (unbroken d) r (state_of d k) i o
    unfolding may
    leads_after l r kept k i o hk hi ho =
        leads_game sheet_steps l
        (λ q. kept_after (List ℕ) (inputs_of d) (outputs_of d) (advance d) (unbroken d) r (state_of d q)) kept k i o hk hi ho
        ∙ by_test (passes (cells_of d) (inputs_of d) (outputs_of d) k i o)
        (λ y. rw (y, sym (pass_is k i o hk hi ho) ∙ y, numbers_name.lands k i o hk hi ho y))
        (λ y. rw (y, sym (pass_is k i o hk hi ho) ∙ y))

    -- so a step of the settled table leads in exactly if its output is allowed
    pub leads_iff : (t : List ℕ) → Reached d t → (i o : ℕ) → i < inputs_of d → o < outputs_of d
        → (leads_in (cells_of d) (dropped_of d) (cell_at (inputs_of d) (outputs_of d) (number_of d t) i o) ≡ true) ↔ Allowed d t i o
    leads_iff t r i o hi ho =
        let x = allowed_iff (List ℕ) (inputs_of d) (outputs_of d) (advance d) (unbroken d) (Reached d)
        (reachable_closed (List ℕ) (inputs_of d) (outputs_of d) (advance d) (unbroken d) (first_tuple d)) (state_count d) settled_quiet
        t i o r hi ho in
        let e : leads_in (cells_of d) (dropped_of d) (cell_at (inputs_of d) (outputs_of d) (number_of d t) i o)
        ≡ may (List ℕ) (inputs_of d) (outputs_of d) (advance d) (unbroken d) (state_count d) t i o =
        leads_after (dropped_of d) (state_count d) in_kept (number_of d t) i o ((reached_number d fits t).0 r) hi ho
        ∙ ap (λ (u : List ℕ). may (List ℕ) (inputs_of d) (outputs_of d) (advance d) (unbroken d) (state_count d) u i o)
        (number_state d fits t r) in
        (λ y. x.0 (sym e ∙ y), λ a. e ∙ x.1 a)

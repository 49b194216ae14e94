-- The bytes of a sheet's answer say what they should: the round that dropped a state is the least number of steps in which a break is
-- forced from its tuple, the lowest input without an escape is the one that does so, the cells name the monitors, and the kept states
-- hold out for ever.
-- Assumes nothing.
use Rattle.std.specs.Prelude.{◌≡◌, ◌↔◌, true, false, List, length, get_or}
use Rattle.std.proofs.Math.Path.{refl}
use Rattle.std.proofs.Common.{sym, ap, ◌∙◌, subst, arith, pow_pos, eq-eqb, ne_eqb}
use Rattle.std.proofs.Math.Bool.{not}
use Prim.Native.Nat.{ℕ, zero, suc, ◌^◌, ◌≤◌, ◌<◌}
use Rattle.std.proofs.Math.Decide.{ℕ_discrete}
use Rattle.std.proofs.lemmas.Bool.{not-true, not-false}
use Rattle.records.specs.Meaning.Bounded.{any}
use Rattle.records.specs.Laws.Bounded.{any_cong}
use Rattle.records.specs.Meaning.Limits.{max_states, max_monitors}
use Rattle.records.specs.Laws.Tests.{by_test, both_ways}
use Rattle.sheet.specs.Meaning.Decoded.{Decoded, SheetOk, input_lines}
use Rattle.product.specs.Meaning.Step.{inputs_of, outputs_of, advance, broken, unbroken, BrokenBy, first_tuple}
use Rattle.product.specs.Meaning.States.{Reached}
use Rattle.product.specs.Model.ProductNumbering.{product_states, state_count, state_of}
use Rattle.product.specs.Laws.ProductNumbering.{state_reached}
use Rattle.product.specs.Laws.Counts.{inputs_most}
use Rattle.product.specs.Laws.Ordered.{product_states_lem}
use Rattle.product.specs.Laws.Outcome.{broken_by, broken_once}
use Rattle.game.specs.Model.Rounds.{kept_after, dropped_by, may}
use Rattle.game.specs.Laws.Rounds.{dropped_le, survives_for_ever}
use Rattle.game.specs.Laws.Forcing.{kept_by, some_forces, forced}
use Rattle.game.specs.Laws.Reachable.{reachable_closed}
use Rattle.rounds.specs.Model.TableRounds.{is_in, answered}
use Rattle.forced_rows.specs.Meaning.ForcedBytes.{no_breaker}
use Rattle.forced_rows.specs.Model.ForcedRows.{before_round, forces_at, forcing_input, breaker_in, breaker_at}
use Rattle.forced_rows.specs.Laws.ForcedRows.{before_in, forcing_lowest, forcing_kept, rows_answer, length_forced_rows}
use Rattle.forced_rows.specs.Laws.ForcedRows.{breaker_marked, breaker_one, breaker_else}
use Rattle.solve.specs.Meaning.Allowed.{Kept, Lost}
use Rattle.solve.specs.Model.Steps.{cells_of, dropped_of}
use Rattle.solve.specs.Laws.Entries.{mark_is, length_dropped, dropped_is, in_kept, settled_quiet, state_in, state_out, leads_after}
use Rattle.forced.specs.Meaning.Play.{ForcedFrom, HoldsOut}
use Rattle.forced.specs.Model.ForcedOfSheet.{forced_of}
use Rattle.forced.specs.Promises.ForcedMaker.{ShowsPlay}

module _ (d : Decoded) (fits : state_count d ≤ max_states) where
  -- the number of steps and the input of state k
  abbrev steps_of : ℕ → ℕ
  steps_of k = get_or (dropped_of d) k 0

  abbrev input_of : ℕ → ℕ
  input_of = forcing_input (cells_of d) (dropped_of d) (inputs_of d) (outputs_of d)

  -- and the monitor at each output
  abbrev breakers_of : ℕ → ℕ → ℕ
  breakers_of k = breaker_at (cells_of d) (dropped_of d) (inputs_of d) (outputs_of d) k (input_of k)

  -- before round m + 1 a state is in when its tuple is kept after m rounds
  in_before : (m : ℕ) → m ≤ state_count d → (q : ℕ) → q < state_count d
      → is_in (before_round (suc m) (dropped_of d)) q
      ≡ kept_after (List ℕ) (inputs_of d) (outputs_of d) (advance d) (unbroken d) m (state_of d q)
  in_before m h q u =
      before_in (suc m) (dropped_of d) q (omega (arith, length_dropped d))
      ∙ rw (dropped_is d fits q u)
      (sym (kept_by (List ℕ) (inputs_of d) (outputs_of d) (advance d) (unbroken d) (state_count d) m (state_of d q) h))

  module _ (k : ℕ) (h : k < state_count d) where
    -- no more steps than product states
    most : steps_of k ≤ state_count d
    most = rw (dropped_is d fits k h) (dropped_le (List ℕ) (inputs_of d) (outputs_of d) (advance d) (unbroken d) (state_count d) (state_of d k))

    -- ---- a state that is dropped

    module _ (m : ℕ) (out : steps_of k ≡ suc m) (lost : is_in (dropped_of d) k ≡ false) where
      -- an input forces exactly if none of its answers may be given after m rounds
      forces_any : (i : ℕ) → i < inputs_of d
          → forces_at (cells_of d) (dropped_of d) (inputs_of d) (outputs_of d) k i
          ≡ not (any (outputs_of d) (may (List ℕ) (inputs_of d) (outputs_of d) (advance d) (unbroken d) m (state_of d k) i))
      unfolding forces_at answered
      forces_any i hi =
          rw out
          (ap not (any_cong (outputs_of d) _ _ (λ o ho.
          leads_after d fits (before_round (suc m) (dropped_of d)) m (in_before m (omega (arith, most))) k i o h hi ho)))

      forced_is : ForcedFrom d (state_of d k) (suc m) (input_of k)
      forced_is =
          let e : dropped_by (List ℕ) (inputs_of d) (outputs_of d) (advance d) (unbroken d) (state_count d) (state_of d k) ≡ suc m =
          sym (dropped_is d fits k h) ∙ out in
          let some = some_forces (List ℕ) (inputs_of d) (outputs_of d) (advance d) (unbroken d) (state_count d) m (state_of d k) e in
          let low = forcing_lowest (cells_of d) (dropped_of d) (inputs_of d) (outputs_of d) k lost some.0 some.1
          (forces_any some.0 some.1 ∙ ap not some.2) in
          forced (List ℕ) (inputs_of d) (outputs_of d) (advance d) (unbroken d) (state_count d) m (state_of d k) e (input_of k) low.low
          (not-true _ (sym (forces_any (input_of k) low.low) ∙ low.hit))
          (λ j l. not-false _ (sym (forces_any j (omega (arith, low.low))) ∙ low.none j l))

    -- the number of steps decides which it is
    cases {ℓ} : {X : Type ℓ} → (steps_of k ≡ 0 → is_in (dropped_of d) k ≡ true → X)
        → ((m : ℕ) → steps_of k ≡ suc m → is_in (dropped_of d) k ≡ false → X) → X
    unfolding is_in
    cases {X = X} kept lost = go (steps_of k) refl
      where
        go : (x : ℕ) → steps_of k ≡ x → X
        go zero e = kept e (eq-eqb _ 0 e)
        go (suc m) e = lost m e (ne_eqb (steps_of k) 0 (λ z. omega arith))

    kept_zero : (steps_of k ≡ 0) ↔ Kept d (state_of d k)
    kept_zero = (
      λ z. cases (λ e y. (state_in d fits k h).0 y) (λ m e y. absurd (omega arith)),
      λ q. cases (λ e y. e) (λ m e y. both_ways ((state_in d fits k h).1 q) y),
    )

    lost_some : (0 < steps_of k) ↔ Lost d (state_of d k)
    lost_some = (
      λ z. cases (λ e y. absurd (omega arith)) (λ m e y. (state_out d fits k h).0 y),
      λ q. cases (λ e y. both_ways y ((state_out d fits k h).1 q)) (λ m e y. omega arith),
    )

    lost_forced : Lost d (state_of d k) → ForcedFrom d (state_of d k) (steps_of k) (input_of k)
    lost_forced q = cases (λ e y. both_ways y ((state_out d fits k h).1 q)) (λ m e y. rw e (forced_is m e y))

    -- ---- a state that is kept

    holds_out : Kept d (state_of d k) → HoldsOut d (state_of d k)
    holds_out q =
        survives_for_ever (List ℕ) (inputs_of d) (outputs_of d) (advance d) (unbroken d) (Reached d)
        (reachable_closed (List ℕ) (inputs_of d) (outputs_of d) (advance d) (unbroken d) (first_tuple d)) (state_count d) (settled_quiet d fits)
        (state_of d k) (record { inside = state_reached d k h; kept = sym (in_kept d fits k h) ∙ (state_in d fits k h).1 q })

    -- the input is one of the sheet's
    pub forcing_low : input_of k < inputs_of d
    forcing_low =
        cases
        (λ e y. omega (arith, forcing_kept (cells_of d) (dropped_of d) (inputs_of d) (outputs_of d) k y, pow_pos (input_lines d)))
        (λ m e y. (forced_is m e y).input)

    -- ---- the monitors

    -- one step from the end every output is broken at the input
    all-broken : steps_of k ≡ 1 → (o : ℕ) → o < outputs_of d → broken d (state_of d k) (input_of k) o ≡ true
    all-broken e o ho =
        let one : ForcedFrom d (state_of d k) 1 (input_of k) =
        subst (λ (n : ℕ). ForcedFrom d (state_of d k) n (input_of k)) e (lost_forced (lost_some.0 (omega arith))) in
        by_test (broken d (state_of d k) (input_of k) o) (λ y. y) (λ y. absurd (one.begins o ho (ap not y)))

    -- and its cell says by which monitor
    breaker : steps_of k ≡ 1 → (o : ℕ) → o < outputs_of d
        → (j : ℕ) × BrokenBy d (state_of d k) (input_of k) o j × (breakers_of k o ≡ j)
    breaker e o ho =
        let by = (broken_by d (state_of d k) (input_of k) o).0 (all-broken e o ho) in (
          by.0,
          by.1,
          breaker_one (cells_of d) (dropped_of d) (inputs_of d) (outputs_of d) k (input_of k) o e
              ∙ ap breaker_in (mark_is d k (input_of k) o h forcing_low ho by.1) ∙ breaker_marked by.0,
        )

    named : (o : ℕ) → o < outputs_of d → steps_of k ≡ 1
        → (j : ℕ) → (breakers_of k o ≡ j) ↔ BrokenBy d (state_of d k) (input_of k) o j
    named o ho e j =
        let b = breaker e o ho in (
          λ z. subst (λ (m : ℕ). BrokenBy d (state_of d k) (input_of k) o m) (sym b.2 ∙ z) b.1,
          λ x. b.2 ∙ broken_once d (state_of d k) (input_of k) o b.1 x,
        )

    unnamed : (o : ℕ) → (steps_of k ≡ 1 → ⊥) → breakers_of k o ≡ no_breaker
    unnamed o ne = breaker_else (cells_of d) (dropped_of d) (inputs_of d) (outputs_of d) k (input_of k) o ne

    monitor_byte : length d.monitors ≤ max_monitors → (o : ℕ) → o < outputs_of d → breakers_of k o < 2 ^ 8
    monitor_byte few o ho =
        elim (ℕ_discrete (steps_of k) 1) [
          | yes e ↦ let b = breaker e o ho in omega (arith, b.1.low, b.2)
          | no ne ↦ omega (arith, unnamed o ne)
        ]

  -- the answer says what it should
  pub shows : SheetOk d → ShowsPlay d (state_count d) (forced_of d)
  unfolding state_count state_of forced_of
  shows ok =
      record {
        tuples = product_states d;
        count = refl;
        numbered = product_states_lem d fits;
        steps = steps_of;
        input = input_of;
        monitor = breakers_of;
        bytes_are = rows_answer (cells_of d) (dropped_of d) (inputs_of d) (outputs_of d) (state_count d);
        size = length_forced_rows (cells_of d) (dropped_of d) (inputs_of d) (outputs_of d) (state_count d);
        steps_most = most;
        two_bytes = λ k h. omega (arith, most k h);
        one_byte = λ k h. omega (arith, forcing_low k h, inputs_most d ok.head);
        monitor_byte = λ k o h. monitor_byte k h ok.count o;
        kept_is = kept_zero;
        kept_input = λ k h q. forcing_kept (cells_of d) (dropped_of d) (inputs_of d) (outputs_of d) k ((state_in d fits k h).1 q);
        holds_out = holds_out;
        lost_is = lost_some;
        forced = lost_forced;
        named = λ k o h. named k h o;
        unnamed = λ k o h ho. unnamed k h o;
      }

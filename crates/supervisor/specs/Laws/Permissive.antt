-- Demand 2: the supervisor table of a sheet means what the papers ask.
-- Assumes nothing.
use Rattle.std.specs.Prelude.{◌≡◌, refl, ◌↔◌, Bool, true, false, cond}
use mathlib.Core.List.{List, [], ◌∷◌}
use Prim.Native.Nat.{ℕ, ◌≤◌, ◌<◌}
use Rattle.std.proofs.Math.Decide.{dec_lt}
use Rattle.std.proofs.Common.{arith}
use Rattle.std.proofs.Math.Pow.{pow_mono}
use Rattle.records.specs.Laws.Tests.{and_right, and_both}
use Rattle.records.specs.Meaning.Bits.{bit_at}
use Rattle.records.specs.Meaning.Limits.{max_states}
use Rattle.sheet.specs.Meaning.Decoded.{Decoded, SheetOk}
use Rattle.product.specs.Meaning.Step.{inputs_of, outputs_of, advance, unbroken, first_tuple}
use Rattle.product.specs.Meaning.States.{Reached}
use Rattle.product.specs.Model.ProductNumbering.{product_states, state_count, state_of, number_of}
use Rattle.product.specs.Laws.ProductNumbering.{reached_number, number_state, state_number, state_reached}
use Rattle.product.specs.Laws.Ordered.{product_states_lem}
use Rattle.game.specs.Meaning.History.{Step, reached, Permitted}
use Rattle.game.specs.Laws.Reachable.{reachable_closed}
use Rattle.game.specs.Meaning.Reachable.{begin, onward}
use Rattle.game.specs.Meaning.Supervisor as relations
use Rattle.game.specs.Laws.Supervisor.{permissive_supervises, permissive_greatest, maximally_permissive}
use Rattle.rounds.specs.Model.TableRounds.{is_in, mask_of}
use Rattle.rounds.specs.Laws.Masks.{allows, mask_lt, mask-says, mask_past, mask_lost}
use Rattle.supervisor_table.specs.Model.MaskRows.{kept_flag, mask_row_length, mask_table_length}
use Rattle.solve.specs.Meaning.Allowed.{Kept, Lost, Allowed, AllowedAfter, MaximallyPermissive}
use Rattle.solve.specs.Model.Steps.{cells_of, dropped_of}
use Rattle.supervisor.specs.Model.SupervisorOfSheet.{supervisor_table}
use Rattle.solve.specs.Laws.Entries.{settled_quiet, in_iff, state_in, state_out, leads_iff}
use Rattle.supervisor.specs.Laws.Bytes.{table_length_lem, table_format}
use Rattle.supervisor.specs.Promises.SupervisorMaker.{Means}

-- a flag is 1 exactly if its test passes
flag_one : (b : Bool) → (◌≡◌ {A = ℕ} (cond b 1 0) 1) ↔ (b ≡ true)
flag_one true = (λ e. refl, λ e. refl)
flag_one false = (λ e. absurd (omega arith), λ e. absurd (let z : ◌≡◌ {A = ℕ} 0 1 = cc in omega arith))

-- and 0 exactly if it fails
flag_none : (b : Bool) → (◌≡◌ {A = ℕ} (cond b 1 0) 0) ↔ (b ≡ false)
flag_none true = (λ e. absurd (omega arith), λ e. absurd (let z : ◌≡◌ {A = ℕ} 0 1 = cc in omega arith))
flag_none false = (λ e. refl, λ e. refl)

-- and at most 1
flag_most : (b : Bool) → cond b 1 0 ≤ 1
flag_most true = omega arith
flag_most false = omega arith

module _ (d : Decoded) (fits : state_count d ≤ max_states) where
  -- where the start can be survived for ever, the allowed outputs are the maximally permissive supervisor
  pub permissive : Kept d (first_tuple d) → MaximallyPermissive d
  permissive kept =
      record {
        supervises = permissive_supervises (List ℕ) (inputs_of d) (outputs_of d) (advance d) (unbroken d) (first_tuple d) (Reached d)
            (reachable_closed (List ℕ) (inputs_of d) (outputs_of d) (advance d) (unbroken d) (first_tuple d))
            (state_count d) (settled_quiet d fits) begin kept;
        greatest = λ P. permissive_greatest (List ℕ) (inputs_of d) (outputs_of d) (advance d) (unbroken d) (first_tuple d)
            (λ h i o. P h i o ≡ true);
      }

  -- and so over all relations, not only those that are given by a test
  pub permissive_relations : Kept d (first_tuple d)
      → relations.MaximallyPermissive (List ℕ) (inputs_of d) (outputs_of d) (advance d) (unbroken d) (first_tuple d)
  permissive_relations kept =
      maximally_permissive (List ℕ) (inputs_of d) (outputs_of d) (advance d) (unbroken d) (first_tuple d) (Reached d)
      (reachable_closed (List ℕ) (inputs_of d) (outputs_of d) (advance d) (unbroken d) (first_tuple d))
      (state_count d) (settled_quiet d fits) begin kept

  -- in a kept state a bit of the mask is 1 exactly if its output is allowed
  mask_iff : (t : List ℕ) → Reached d t → Kept d t → (i o : ℕ) → i < inputs_of d
      → (bit_at (mask_of (cells_of d) (dropped_of d) (inputs_of d) (outputs_of d) (number_of d t) i) o ≡ 1) ↔ Allowed d t i o
  unfolding allows
  mask_iff t r kept i o hi =
      elim (dec_lt o (outputs_of d)) [
        | yes ho ↦
            let x = mask-says (cells_of d) (dropped_of d) (inputs_of d) (outputs_of d) (number_of d t) i o ho in
            let y = leads_iff d fits t r i o hi ho in (
              λ e. y.0 (and_right (is_in (dropped_of d) (number_of d t)) _ (x.0 e)),
              λ a. x.1 (and_both _ _ ((in_iff d fits t r).1 kept) (y.1 a)),
            )
        | no ho ↦ (
          λ e. absurd (omega (arith, mask_past (cells_of d) (dropped_of d) (inputs_of d) (outputs_of d) (number_of d t) i o (omega arith))),
          λ a. absurd (ho a.output),
        )
      ]

  -- a history of allowed steps leads to a kept product state
  lands : Kept d (first_tuple d) → (h : List Step) → Permitted (inputs_of d) (AllowedAfter d) h
      → Reached d (reached (List ℕ) (advance d) (first_tuple d) h) × Kept d (reached (List ℕ) (advance d) (first_tuple d) h)
  lands kept [] p = (begin, kept)
  lands kept (x ∷ h) p =
      let a : Allowed d (reached (List ℕ) (advance d) (first_tuple d) h) x.input x.output = p.1 in
      (onward x.input x.output (lands kept h p.2).0 p.0 a.output a.unbroken, a.survives)

  -- record k speaks of product state k
  module _ (k : ℕ) (h : k < state_count d) where
    number : number_of d (state_of d k) ≡ k
    number = state_number d fits k h

    flag_kept : (kept_flag (dropped_of d) k ≡ 1) ↔ Kept d (state_of d k)
    unfolding kept_flag
    flag_kept =
        let x = flag_one (is_in (dropped_of d) k) in
        let y = state_in d fits k h in (λ e. y.0 (x.0 e), λ q. x.1 (y.1 q))

    flag_lost : (kept_flag (dropped_of d) k ≡ 0) ↔ Lost d (state_of d k)
    unfolding kept_flag
    flag_lost =
        let x = flag_none (is_in (dropped_of d) k) in
        let y = state_out d fits k h in (λ e. y.0 (x.0 e), λ q. x.1 (y.1 q))

    state_mask : Kept d (state_of d k) → (i o : ℕ) → i < inputs_of d
        → (bit_at (mask_of (cells_of d) (dropped_of d) (inputs_of d) (outputs_of d) k i) o ≡ 1) ↔ Allowed d (state_of d k) i o
    state_mask kept i o hi = rw number at (mask_iff (state_of d k) (state_reached d k h) kept i o hi)

  -- the table has the meaning that demand 2 asks of it
  pub means : SheetOk d → Kept d (first_tuple d) → Means d (state_count d) (supervisor_table d)
  unfolding state_count state_of kept_flag
  means ok start =
      record {
        tuples = product_states d;
        count = refl;
        numbered = product_states_lem d fits;
        kept = kept_flag (dropped_of d);
        mask = mask_of (cells_of d) (dropped_of d) (inputs_of d) (outputs_of d);
        bytes = table_format d;
        size = unfold mask_table_length mask_row_length in table_length_lem d;
        flag = λ k h. flag_most (is_in (dropped_of d) k);
        kept_is = flag_kept;
        lost_is = flag_lost;
        mask_byte = λ k i h hi.
            let few : outputs_of d ≤ 8 = pow_mono {j = 3} ok.head.outputs_most in
            omega (arith, mask_lt (cells_of d) (dropped_of d) (inputs_of d) (outputs_of d) k i, pow_mono {j = 8} few);
        mask_is = λ k h kept i o hi ho. state_mask k h kept i o hi;
        mask_none = λ k h lost i hi.
            mask_lost (cells_of d) (dropped_of d) (inputs_of d) (outputs_of d) k i
            ((state_out d fits k h).1 lost);
        after_history = λ h p.
            let l = lands start h p in
            let t : List ℕ = reached (List ℕ) (advance d) (first_tuple d) h in (
              number_of d t,
              (reached_number d fits t).0 l.0,
              number_state d fits t l.0,
              λ i o hi ho. mask_iff t l.0 l.1 i o hi,
            );
        permissive = permissive start;
      }

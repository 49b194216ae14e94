-- How the answers come about: by a refusal of solving, by 23, by 9, and by the bytes.
-- `ok` says that the work memory is long enough, `before` is the result memory.
-- Assumes nothing.
use mathlib.Core.Path.{◌≡◌, refl, sym, ap, ap₂, ◌∙◌}
use mathlib.Core.Bool.{Bool, true, false}
use mathlib.Core.List.{List}
use Prim.Native.Nat.{ℕ, ◌^◌, ◌≤◌, ◌<◌}
use native.Mathlib.Omega.{arith}
use Rattle.std.specs.Prelude.{Ok, Err}
use lib.ListN.{length, get_or}
use lib.Seq.{sets}
use borrow.Author.Tests.{le-leb, lt-leb}
use Rattle.records.specs.Meaning.Limits.{max_states}
use Rattle.records.specs.Meaning.Lists.{cat}
use Rattle.records.specs.Laws.Lists.{cat_ext}
use Rattle.sheet.specs.Meaning.Decoded.{Decoded}
use Rattle.sheet.specs.Meaning.Grounds.{ground_number}
use Rattle.sheet.specs.Model.Where.{decoded}
use Rattle.sheet.specs.declared.layout.Refusal.{Refusal}
use Rattle.sheet.specs.declared.layout.Refusal.TheVariants.{ShortResult}
use Rattle.product.specs.Meaning.Step.{inputs_of, outputs_of}
use Rattle.product.specs.Model.ProductNumbering.{state_count}
use Rattle.product.specs.Laws.Counts.{layout_inputs, layout_outputs}
use Rattle.forced_rows.specs.Meaning.ForcedBytes.{forced_length}
use Rattle.forced_rows.specs.Model.ForcedRows.{forcing_input, forced_row}
use Rattle.forced_rows.specs.Laws.ForcedRows.{forcing_agree, forced_agree}
use Rattle.solve.specs.Model.Steps.{dropped_of}
use Rattle.solve.specs.Model.Making.{sheet_of, room_number}
use Rattle.solve.specs.Model.SolvingSheet.{solving_number, SolvedSheet}
use Rattle.solve.specs.Laws.Entries.{length_dropped, sheet_steps}
use Rattle.solve.specs.Laws.Solving.{cells_agree, numbering_fits}
use Rattle.solve.specs.Laws.OrderedNumber.{refused-off, ordered_refused, solved_start, solved_past}
use Rattle.forced.specs.Laws.Shown.{forcing_low}
use Rattle.forced.specs.Model.ForcedOfSheet.{forced_of, forced_size, held_number, Plays}
use Rattle.forced.specs.declared.answer.Ground.TheVariants as ground
use Rattle.solve.specs.declared.made.Made.{Made}
use Rattle.solve.specs.declared.solving.Solved.{Solved}

module _ {ok : Bool} {s : List ℕ} (before : List ℕ) where
  -- solving refuses
  pub plays-refused : (g : Refusal) → ground_number g ≡ solving_number ok s → Plays ok s before (Err (ground.Sheet g)) before
  plays-refused g e =
      record {
        number = ordered_refused held_number forced_size ok s (length before) g e;
        size = rw (refused-off g);
        states = rw (refused-off g);
        bytes = rw (refused-off g);
      }

  module _ {r : Solved} {tuples cells dropped : List ℕ} (solved : SolvedSheet ok s r tuples cells dropped) where
    counted : r.states ≡ state_count (sheet_of s)
    counted = solved.solution.numbering.counted ∙ ap state_count solved.same

    -- the start is kept
    pub plays-held : r.start ≡ true → Plays ok s before (Err ground.Realizable) before
    unfolding held_number
    plays-held e =
        record {
          number = sym (solved_past solved held_number forced_size (length before) ∙ rw (solved_start solved ∙ e));
          size = refl;
          states = refl;
          bytes = refl;
        }

    -- what solving leaves gives the inputs and the rows of the sheet's answer
    module _ {ins outs : ℕ} (is-inputs : ins ≡ 2 ^ r.sheet.inputs) (is-outputs : outs ≡ 2 ^ r.sheet.outputs) (room : r.states ≤ length dropped)
      where
        abbrev d : Decoded
        d = decoded s r.sheet

        ins_are : ins ≡ inputs_of d
        ins_are = is-inputs ∙ layout_inputs solved.fits

        outs_are : outs ≡ outputs_of d
        outs_are = is-outputs ∙ layout_outputs s r.sheet

        fits : state_count d ≤ max_states
        fits = numbering_fits solved.solution.numbering

        same_entries : (q : ℕ) → q < state_count d → get_or (dropped_of d) q 0 ≡ get_or dropped q 0
        same_entries q h = sym (solved.solution.rounds q (omega (arith, solved.solution.numbering.counted)))

        pub input_inside : (k : ℕ) → k < r.states → forcing_input cells dropped ins outs k < ins
        input_inside k h =
            let numbering = solved.solution.numbering in
            rw (
              ins_are,
              outs_are,
              ← forcing_agree (sheet_steps d fits) cells (cells_agree numbering) (dropped_of d) dropped same_entries
                  (omega (arith, length_dropped d)) (omega (arith, numbering.counted)) k (omega (arith, numbering.counted)),
            )
            (forcing_low d fits k (omega (arith, numbering.counted)))

        rows : cat r.states (forced_row cells dropped ins outs) ≡ forced_of d
        unfolding forced_of
        rows =
            let numbering = solved.solution.numbering in
            rw (ins_are, outs_are, numbering.counted)
            (cat_ext (state_count d) _ _ (λ k u.
            sym (forced_agree (sheet_steps d fits) cells (cells_agree numbering) (dropped_of d) dropped same_entries
            (omega (arith, length_dropped d)) (omega (arith, numbering.counted)) k u (forcing_low d fits k u))))

    module _ (lost : r.start ≡ false) {outs size : ℕ} (is-outputs : outs ≡ 2 ^ r.sheet.outputs) (sized : size ≡ forced_length outs r.states) where
      size_is : size ≡ forced_size (sheet_of s)
      unfolding forced_size
      size_is =
          sized ∙ ap₂ forced_length (is-outputs ∙ layout_outputs s r.sheet ∙ ap outputs_of solved.same) counted

      -- the result is too short
      pub plays_short : length before < size → Plays ok s before (Err (ground.Sheet ShortResult)) before
      unfolding held_number room_number
      plays_short h =
          record {
            number = sym (solved_past solved held_number forced_size (length before)
                ∙ rw (solved_start solved ∙ lost, ← size_is, lt-leb size (length before) h));
            size = refl;
            states = refl;
            bytes = refl;
          }

      -- the rows are written
      pub plays_written : size ≤ length before → {ins : ℕ} → ins ≡ 2 ^ r.sheet.inputs → r.states ≤ length dropped
          → {after : List ℕ} → after ≡ sets before 0 (cat r.states (forced_row cells dropped ins outs))
          → {made : Made} → made.length ≡ size → made.states ≡ r.states → Plays ok s before (Ok made) after
      unfolding held_number room_number
      plays_written h is-inputs room wrote length_is states_are =
          record {
            number = sym (solved_past solved held_number forced_size (length before)
                ∙ rw (solved_start solved ∙ lost, ← size_is, le-leb size (length before) h));
            size = length_is ∙ size_is;
            states = states_are ∙ counted;
            bytes = wrote ∙ ap (λ (l : List ℕ). sets before 0 l) (rows is-inputs is-outputs room ∙ ap forced_of solved.same);
          }

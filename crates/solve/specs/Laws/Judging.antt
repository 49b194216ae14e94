-- How a maker's answers come about: by the sheet's refusals, by 7, 8 and 9, and by a table; and what they then mean.
-- `work` says that the work memory is long enough, `before` and `after` are the result memory.
-- Assumes nothing.
use Rattle.std.specs.Prelude.{◌≡◌, refl, Bool, true, false, List, ℕ, ◌≤◌, ◌<◌, eqb, length, take, drop, Result, Ok, Err}
use Rattle.std.proofs.Common.{sym, ◌∙◌, ne_eqb}
use Rattle.std.proofs.Math.Path.{subst}
use Rattle.std.proofs.lemmas.List.Edits.{sets}
use Rattle.std.proofs.Math.Seq.{take-append_seam}
use Rattle.records.specs.Laws.Lists.{sets_front}
use Rattle.records.specs.Meaning.Limits.{max_states}
use Rattle.sheet.specs.Meaning.Decoded.{Decoded}
use Rattle.sheet.specs.Meaning.Grounds.{ground_number}
use Rattle.sheet.specs.Model.Reader.{reading}
use Rattle.sheet.specs.Meaning.Refusals.{sheet_number}
use Rattle.sheet.specs.Promises.Reader.{Reads}
use Rattle.sheet.specs.declared.layout.Refusal.{Refusal}
use Rattle.sheet.specs.declared.layout.Refusal.TheVariants as cause
use Rattle.product.specs.Meaning.Step.{first_tuple}
use Rattle.product.specs.Model.ProductNumbering.{state_count}
use Rattle.rounds.specs.Model.TableRounds.{is_in}
use Rattle.solve.specs.Meaning.Allowed.{Kept, Unrealizable, Accepted}
use Rattle.solve.specs.Model.Steps.{dropped_of}
use Rattle.solve.specs.Model.Making.{sheet_of, making_number, Judges, Answers}
use Rattle.solve.specs.Meaning.Made.{made_number, made_length}
use Rattle.solve.specs.Laws.OrderedNumber.{refused-off, due_short, due_none, lost_none, table_due, making_ordered}
pub use Rattle.solve.specs.Laws.RefusalOrder.{Only}
use Rattle.solve.specs.Laws.RefusalOrder.{few_fit, only_is, orders, lost_stops}
use Rattle.solve.specs.Promises.RefusalOrder.{InOrder}
use Rattle.solve.specs.Promises.Making.{Written, Unwritten, Makes}
use Rattle.solve.specs.declared.made.Made.{Made}

-- ---- judging a sheet in bounds

module _
    (table : Decoded → List ℕ) (stateCounts : Decoded → ℕ) (d : Decoded) (before : List ℕ)
    (fits : state_count d ≤ max_states) (kept : is_in (dropped_of d) 0 ≡ true)
  where
    -- the result is too short
    pub judges_short : length before < length (table d) → Judges table stateCounts d before (Err cause.ShortResult) before
    judges_short h =
        record {
          number = sym (table_due d _ _ ∙ due_short d _ _ _ fits (lost_none d kept) h);
          size = refl;
          states = refl;
          bytes = refl;
        }

    -- the table is written
    pub judges_made : length (table d) ≤ length before
        → Judges table stateCounts d before (Ok (record { length = length (table d); states = stateCounts d })) (sets before 0 (table d))
    judges_made h =
        record {
          number = sym (table_due d _ _ ∙ due_none d _ _ _ fits (lost_none d kept) h);
          size = refl;
          states = refl;
          bytes = refl;
        }

-- ---- answering for any bytes

module _ (table : Decoded → List ℕ) (stateCounts : Decoded → ℕ) (work : Bool) (s before : List ℕ) where
  -- a refusal by the number that is due
  pub answers_refused : (g : Refusal) → ground_number g ≡ making_number table work s (length before)
      → Answers table stateCounts work s before (Err g) before
  answers_refused g e =
      record { number = e; size = rw (refused-off g); states = rw (refused-off g); bytes = rw (refused-off g) }

  -- the sheet is in bounds, and judged
  pub answers_judged : work ≡ true → sheet_number s ≡ 0 → (d : Decoded) → d ≡ sheet_of s → (r : Result Made Refusal) (after : List ℕ)
      → Judges table stateCounts d before r after → Answers table stateCounts work s before r after
  unfolding making_number
  answers_judged w none d same r after judges =
      let j : Judges table stateCounts (sheet_of s) before r after =
      subst (λ (y : Decoded). Judges table stateCounts y before r after) same judges in
      record { number = rw (w, none) j.number; size = j.size; states = j.states; bytes = j.bytes }

-- ---- what the answers mean

-- an accepted sheet's states fit
pub accepted_layout : {s : List ℕ} {d : Decoded} → Accepted s d → state_count d ≤ max_states
accepted_layout {d = d} a = few_fit d a.few

-- what was written is what the result begins with
pub written_front : {table before after : List ℕ} {states : ℕ} {r : Result Made Refusal} → Written table states before r after
    → take (made_length r) after ≡ table
written_front {table} {before} w = rw (w.size, w.bytes) (take-append_seam table (drop (length table) before))

-- the promise of every maker
pub makes : (table : Decoded → List ℕ) (stateCounts : Decoded → ℕ) {work : Bool} {s before : List ℕ} {r : Result Made Refusal} {after : List ℕ}
    → Answers table stateCounts work s before r after → Reads s (reading s) → Only s → Makes table stateCounts work s before r after
makes table stateCounts {work} {s} {before} {r} {after} answers reads only =
    record {
      answers = answers;
      in_bounds = order.in_bounds;
      short_work = order.short_work;
      bad_sheet = order.bad_sheet;
      cause = order.cause;
      too_many = order.too_many;
      unrealizable = order.stopped;
      short_result = λ w d a. order.short_result w d a.sheet a.few a.realizable;
      exactly = (
        λ e. let x = order.exactly.0 e in (x.0, record { sheet = x.1; few = x.2; realizable = x.3 }, x.4, x.5),
        λ y. order.exactly.1 (y.0, y.1.sheet, y.1.few, y.1.realizable, y.2, y.3),
      );
      written = λ e d x. subst (λ (y : Decoded). Written (table y) (stateCounts y) before r after) (only_is only d x) (wrote e);
      unwritten = unwrote;
    }
  where
    order : InOrder 8 Unrealizable (λ d. Kept d (first_tuple d)) (λ d. length (table d)) work s (length before) (made_number r)
    order =
        orders lost_stops (λ d. length (table d)) work s (length before) (made_number r)
        (answers.number ∙ making_ordered table work s (length before)) reads only

    wrote : made_number r ≡ 0 → Written (table (sheet_of s)) (stateCounts (sheet_of s)) before r after
    wrote e =
        let x = order.exactly.0 e in
        let long : length (table (sheet_of s)) ≤ length before =
        subst (λ (y : Decoded). length (table y) ≤ length before) (sym (only_is only x.0 x.1)) x.5 in
        record {
          size = answers.size ∙ rw e;
          count = answers.states ∙ rw e;
          bytes = answers.bytes ∙ rw e (sets_front before (table (sheet_of s)) long);
        }

    unwrote : (made_number r ≡ 0 → ⊥) → Unwritten before r after
    unwrote e =
        let off : eqb (made_number r) 0 ≡ false = ne_eqb (made_number r) 0 e in
        record { size = answers.size ∙ rw off; count = answers.states ∙ rw off; bytes = answers.bytes ∙ rw off }

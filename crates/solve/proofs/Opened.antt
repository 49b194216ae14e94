-- How opening a sheet comes to its answer: by a refusal of solving it, by 8, or by none.
-- `ok` says that the work memory is long enough.
-- Assumes nothing.
use Rattle.std.proofs.Common.{◌≡◌, refl, sym, ◌∙◌, subst, arith, Bool, true, false, cond, List, ℕ, zero, suc, length}
use Rattle.std.specs.Prelude.{Result, Ok, Err}
use Rattle.sheet.specs.Meaning.Decoded.{Decoded}
use Rattle.sheet.specs.Meaning.Grounds.{ground_number}
use Rattle.sheet.specs.Meaning.Refusals.{sheet_number, first_number}
use Rattle.sheet.specs.Model.Where.{decoded}
use Rattle.sheet.specs.declared.layout.Refusal.{Refusal}
use Rattle.sheet.specs.declared.layout.Refusal.TheVariants.{Unrealizable}
use Rattle.solve.specs.Model.Solve.{Solution}
use Rattle.solve.specs.Model.Making.{sheet_of, many_number, lost_number, room_number, making_number, due_number, ordered_number}
use Rattle.solve.specs.Model.SolvingSheet.{solving_number, SolvedSheet, SolvesSheet, SolvingAnswer}
use Rattle.solve.specs.Model.Opening.{Opened, Refuses, OpenAnswer}
use Rattle.solve.specs.Laws.OrderedNumber.{ordered_refused, making_ordered, opening_ordered}
use Rattle.solve.specs.Laws.Judging.{answers_refused, answers_judged}
use Rattle.solve.specs.declared.solving.Solved.{Solved}

-- the number is due, whatever the table and the result memory
abbrev Due : Bool → List ℕ → Refusal → Type 0
Due ok s g = (size : Decoded → ℕ) (room : ℕ) → ground_number g ≡ ordered_number lost_number size ok s room

module _ (ok : Bool) (s : List ℕ) where
  refuses : (g : Refusal) → Due ok s g → Refuses ok s g
  refuses g e = λ table counts before.
      answers_refused table counts ok s before g
      (e (λ d. length (table d)) (length before) ∙ sym (making_ordered table ok s (length before)))

  refused : (g : Refusal) → Due ok s g → OpenAnswer ok s (Err g)
  refused g e = record { number = e (λ d. 0) 0 ∙ sym (opening_ordered ok s); figures = tt }

  -- the sheet is not solved
  module _ (g : Refusal) (e : ground_number g ≡ solving_number ok s) where
    unsolved : Due ok s g
    unsolved size room = ordered_refused lost_number size ok s room g e

    pub opens_unsolved : Refuses ok s g
    opens_unsolved = refuses g unsolved

    pub unsolved_answer : OpenAnswer ok s (Err g)
    unsolved_answer = refused g unsolved

  -- it is solved, and what is due is past 7
  module _ (r : Solved) (answer : SolvingAnswer ok s (Ok r)) where
    past : (size : Decoded → ℕ) (room : ℕ) → ordered_number lost_number size ok s room
        ≡ first_number (lost_number (sheet_of s)) (room_number (size (sheet_of s)) room)
    unfolding solving_number ordered_number due_number
    past size room = go ok (sheet_number s) (many_number (sheet_of s)) (sym answer.number)
      where
        go : (b : Bool) (x y : ℕ) {z : ℕ} → cond b (first_number x y) 10 ≡ 0 → cond b (first_number x (first_number y z)) 10 ≡ z
        go true zero zero e = refl
        go true zero (suc y) e = absurd (omega arith)
        go true (suc x) y e = absurd (omega arith)
        go false x y e = absurd (omega arith)

    -- the start is dropped
    lost : r.start ≡ false → Due ok s Unrealizable
    unfolding lost_number
    lost e size room = sym (past size room ∙ rw (sym answer.figures.start_is ∙ e))

    -- and where it is not
    kept : r.start ≡ true → OpenAnswer ok s (Ok r)
    unfolding lost_number room_number
    kept e =
        record {
          number = sym (opening_ordered ok s ∙ past (λ d. 0) 0 ∙ rw (sym answer.figures.start_is ∙ e));
          figures = answer.figures;
        }

  -- the same of what solving answers
  module _ (x : Result Solved Refusal) (r : Solved) (is : x ≡ Ok r) where
    module _ (e : r.start ≡ false) (answer : SolvingAnswer ok s x) where
      pub opens_lost : (table : Decoded → List ℕ) (room : ℕ) → 8 ≡ making_number table ok s room
      opens_lost table room = lost r (rw is at answer) e (λ d. length (table d)) room ∙ sym (making_ordered table ok s room)

      pub lost_answer : OpenAnswer ok s (Err Unrealizable)
      lost_answer = refused Unrealizable (lost r (rw is at answer) e)

    module _ (e : r.start ≡ true) where
      pub kept_answer : SolvingAnswer ok s x → OpenAnswer ok s (Ok r)
      kept_answer answer = kept r (rw is at answer) e

      pub opens_kept : (tuples cells dropped : List ℕ) → SolvesSheet ok s x tuples cells dropped → Opened ok s r tuples cells dropped
      opens_kept tuples cells dropped solves =
          let solved : SolvedSheet ok s r tuples cells dropped = rw is at solves in
          record {
            long = solved.long;
            fits = solved.fits;
            same = solved.same;
            solution = subst (λ (b : Bool). Solution (decoded s r.sheet) r.states r.kept b tuples cells dropped) e solved.solution;
            answers = λ table counts {before} {r = made} {after}.
                answers_judged table counts ok s before solved.long solved.none (decoded s r.sheet) solved.same made after;
          }

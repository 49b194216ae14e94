-- How solving the sheet of any bytes comes to its answer: by 10, by the sheet's refusals, by 7, or by none.
-- `ok` says that the work memory is long enough, x is what the reader answers.
-- Assumes nothing.
use Rattle.std.proofs.Common.{◌≡◌, sym, ap, ◌∙◌, subst, Bool, true, false, List, ℕ, suc, ◌≤◌, ◌<◌}
use Rattle.std.specs.Prelude.{Option, Some, None, IfSome, Result, Ok, Err}
use Rattle.std.specs.Option.{ok_or}
use Rattle.std.proofs.lemmas.Result.{IfOk-at_ok}
use borrow.Author.Tests.{lt-ltb, le-ltb}
use Rattle.records.specs.Meaning.Limits.{max_states}
use Rattle.sheet.specs.Meaning.Decoded.{Decoded}
use Rattle.sheet.specs.Meaning.Grounds.{ground_number}
use Rattle.sheet.specs.Meaning.Refusals.{sheet_number}
use Rattle.sheet.specs.Laws.Grounds.{some_number}
use Rattle.sheet.specs.Model.Where.{decoded}
use Rattle.sheet.specs.Promises.Reader.{Reads}
use Rattle.sheet.specs.declared.layout.Sheet.{Sheet}
use Rattle.sheet.specs.declared.layout.Refusal.{Refusal}
use Rattle.sheet.specs.declared.layout.Refusal.TheVariants.{ShortWork, TooManyStates}
use Rattle.product.specs.Model.ProductNumbering.{state_count}
use Rattle.rounds.specs.Model.TableRounds.{is_in, kept_count}
use Rattle.solve.specs.Model.Steps.{dropped_of}
use Rattle.solve.specs.Model.Solve.{Solution, Solves}
use Rattle.solve.specs.Model.Making.{read_as, sheet_of, many_number}
use Rattle.solve.specs.Model.SolvingSheet.{solving_number, SolvedSheet, SolvesSheet, Figures, SolvingAnswer}
use Rattle.solve.specs.Laws.Solving.{numbering_fits}
use Rattle.solve.specs.declared.solving.Solved.{Solved}

module _ (ok : Bool) (s : List ℕ) where
  -- the work memory is too short
  pub solves_short : ok ≡ false → ground_number ShortWork ≡ solving_number ok s
  unfolding solving_number
  solves_short e = rw e

  module _ (long : ok ≡ true) {x : Result Sheet Refusal} (reads : Reads s x) where
    -- the sheet is refused
    pub solves_refused : (g : Refusal) → x ≡ Err g → ground_number g ≡ solving_number ok s
    unfolding solving_number
    solves_refused g e =
        let n = some_number g in
        let number : sheet_number s ≡ suc n.0 = sym reads.number ∙ rw e n.1 in
        rw (long, number) n.1

    module _ {h : Sheet} (accepted : x ≡ Ok h) where
      none : sheet_number s ≡ 0
      none = sym reads.number ∙ rw accepted

      same : decoded s h ≡ sheet_of s
      unfolding sheet_of
      same = ap (read_as s) (sym accepted ∙ reads.whole)

      -- there are too many product states
      pub solves_many : max_states < state_count (decoded s h) → ground_number TooManyStates ≡ solving_number ok s
      unfolding solving_number many_number
      solves_many m =
          let many : max_states < state_count (sheet_of s) = subst (λ (d : Decoded). max_states < state_count d) same m in
          rw (long, none, lt-ltb max_states (state_count (sheet_of s)) many)

      -- none of them applies
      module _ {r : Solved} {tuples cells dropped : List ℕ} (layout : r.sheet ≡ h)
          (solution : Solution (decoded s h) r.states r.kept r.start tuples cells dropped) where
        pub solves_solved : SolvedSheet ok s r tuples cells dropped
        solves_solved =
            record { long = long; none = none; fits = rw layout (IfOk-at_ok _ accepted reads.fits); same = rw layout same; solution = rw layout solution }

        pub solves_number : SolvingAnswer ok s (Ok r)
        unfolding solving_number many_number
        solves_number =
            let few : state_count (sheet_of s) ≤ max_states =
            subst (λ (d : Decoded). state_count d ≤ max_states) same (numbering_fits solution.numbering) in
            let figures : Figures (sheet_of s) r =
            record {
              states_are = subst (λ (d : Decoded). r.states ≡ state_count d) same solution.numbering.counted;
              kept_are = subst (λ (d : Decoded). r.kept ≡ kept_count (state_count d) (dropped_of d)) same
                  (solution.kept_states ∙ ap (λ (m : ℕ). kept_count m (dropped_of (decoded s h))) solution.numbering.counted);
              start_is = solution.start_kept ∙ ap (λ (d : Decoded). is_in (dropped_of d) 0) same;
            } in
            record { number = rw (long, none, le-ltb max_states (state_count (sheet_of s)) few); figures = figures }

      -- the answer, where the sheet was read
      pub solves_read : (o : Option Solved) (tuples cells dropped : List ℕ) → Solves (decoded s h) o tuples cells dropped
          → IfSome o (λ r. r.sheet ≡ h)
          → SolvesSheet ok s (ok_or o TooManyStates) tuples cells dropped × SolvingAnswer ok s (ok_or o TooManyStates)
      solves_read None tuples cells dropped many layout = (solves_many many, record { number = solves_many many; figures = tt })
      solves_read (Some r) tuples cells dropped solution layout = (solves_solved layout solution, solves_number layout solution)

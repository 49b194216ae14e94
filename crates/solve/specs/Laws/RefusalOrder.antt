-- What the refusals mean of a call that solves a sheet, whatever stands in the place of 8: each is answered exactly when it is due.
-- Assumes nothing.
use Rattle.std.specs.Prelude.{◌≡◌, refl, ◌↔◌, Bool, true, false, cond, not, List, ℕ, zero, suc, ◌≤◌, ◌<◌}
use Rattle.std.proofs.Common.{sym, ap, ◌∙◌, subst, arith}
use Rattle.std.proofs.Math.Decide.{dec_lt}
use Rattle.std.proofs.lemmas.Result.{IfOk-at_ok}
use Rattle.std.proofs.lemmas.Bool.{not-true, not-false}
use Rattle.records.specs.Laws.Tests.{by_test, both_ways}
use Rattle.records.specs.Meaning.Limits.{max_states}
use Rattle.records.specs.Meaning.Numbers.{Bytes}
use Rattle.sheet.specs.Meaning.Decoded.{Decoded, SheetOk, encode}
use Rattle.sheet.specs.Meaning.Refusals.{sheet_number, first_number}
use Rattle.sheet.specs.Laws.Grounds.{answered}
use Rattle.sheet.specs.Model.Reader.{reading}
use Rattle.sheet.specs.Laws.Most.{number_most}
use Rattle.sheet.specs.Laws.Complete.{decode_encode}
use Rattle.sheet.specs.Laws.Reading.{reads}
use Rattle.sheet.specs.Promises.Reader.{Reads}
use Rattle.product.specs.Meaning.Step.{first_tuple}
use Rattle.product.specs.Model.ProductNumbering.{state_count}
use Rattle.rounds.specs.Model.TableRounds.{is_in}
use Rattle.solve.specs.Meaning.Allowed.{Kept, TooMany, Unrealizable, IsSheet}
use Rattle.solve.specs.Model.Steps.{dropped_of}
use Rattle.solve.specs.Model.Making.{read_as, sheet_of, lost_number, room_number, due_number, ordered_number}
use Rattle.solve.specs.Laws.StateGrounds.{too_many_iff, start_in, start_out}
use Rattle.solve.specs.Laws.OrderedNumber.{due_many, due_past, due_short, due_none, ordered_cases}
use Rattle.solve.specs.Promises.RefusalOrder.{InOrder}

-- states that are not too many fit
pub few_fit : (d : Decoded) → (TooMany d → ⊥) → state_count d ≤ max_states
few_fit d few = elim (dec_lt max_states (state_count d)) [ yes k ↦ absurd (few ((too_many_iff d).1 k)) | no k ↦ omega arith ]

-- no other sheet in bounds has these bytes
abbrev pub Only : List ℕ → Type 0
Only s = (d : Decoded) → SheetOk d → encode d ≡ s → sheet_of s ≡ d

-- as the reader finds the sheet of any bytes
pub only_read : (s : List ℕ) → Only s
unfolding sheet_of
only_read s d o e = let g = decode_encode d o in rw (← e) (ap (read_as (encode d)) g.1 ∙ g.2)

pub only_is : {s : List ℕ} → Only s → (d : Decoded) → IsSheet s d → sheet_of s ≡ d
only_is only d x = only d x.in_bounds x.bytes

-- how a call stops in the place of 8: by a number apart from the others, where a test says so; and what the test means
pub record Stops (stop : ℕ) (Stopped Passes : Decoded → Type 0) (halt : Decoded → ℕ) : Type 0 where
  pub above : 7 < stop
  pub not_nine : stop ≡ 9 → ⊥
  pub not_ten : stop ≡ 10 → ⊥
  pub closed : Decoded → Bool
  pub halts : (d : Decoded) → halt d ≡ cond (closed d) stop 0
  pub stops : (d : Decoded) → state_count d ≤ max_states → (closed d ≡ true) ↔ Stopped d
  pub passes : (d : Decoded) → state_count d ≤ max_states → (closed d ≡ false) ↔ Passes d

module _
    {stop : ℕ} {Stopped Passes : Decoded → Type 0} {halt : Decoded → ℕ} (place : Stops stop Stopped Passes halt)
    (size : Decoded → ℕ) (work : Bool) (s : List ℕ) (room number : ℕ) (due : number ≡ ordered_number halt size work s room)
  where
    -- ---- the number of a sheet in bounds

    halted : (d : Decoded) → state_count d ≤ max_states → place.closed d ≡ true → due_number d (halt d) (size d) room ≡ stop
    halted d fits e = due_past d (halt d) (size d) room fits ∙ rw (place.halts d, e) (first stop place.above)
      where
        first : (n : ℕ) → 7 < n → first_number n (room_number (size d) room) ≡ n
        first zero h = absurd (omega arith)
        first (suc n) h = refl

    passed : (d : Decoded) → place.closed d ≡ false → halt d ≡ 0
    passed d e = place.halts d ∙ rw e

    -- there is no other number, and each says what it was given for
    cases {ℓ} : {X : Type ℓ} (d : Decoded) → (max_states < state_count d → due_number d (halt d) (size d) room ≡ 7 → X)
        → (state_count d ≤ max_states → place.closed d ≡ true → due_number d (halt d) (size d) room ≡ stop → X)
        → (state_count d ≤ max_states → place.closed d ≡ false → room < size d → due_number d (halt d) (size d) room ≡ 9 → X)
        → (state_count d ≤ max_states → place.closed d ≡ false → size d ≤ room → due_number d (halt d) (size d) room ≡ 0 → X) → X
    cases d many lost short none =
        elim (dec_lt max_states (state_count d)) [
          | yes h ↦ many h (due_many d _ _ _ h)
          | no h ↦
              let fits : state_count d ≤ max_states = omega arith in
              by_test (place.closed d) (λ y. lost fits y (halted d fits y))
              (λ y. elim (dec_lt room (size d)) [
                | yes k ↦ short fits y k (due_short d _ _ _ fits (passed d y) k)
                | no k ↦ let long : size d ≤ room = omega arith in none fits y long (due_none d _ _ _ fits (passed d y) long)
              ])
        ]

    -- 9 only if the result is shorter than the answer
    pub order_nine : number ≡ 9 → room < size (sheet_of s)
    order_nine e =
        ordered_cases halt size work s room due (λ w q. absurd (omega arith)) (λ w y q. absurd (omega (arith, number_most s)))
        (λ w z q. cases (sheet_of s) (λ h y. absurd (omega arith)) (λ f c y. absurd (place.not_nine (omega arith))) (λ f c l y. l)
        (λ f c l y. absurd (omega arith)))

    -- no number above 7 but the call's own, 9 and 10
    pub order_else : 7 < number → (number ≡ stop → ⊥) → (number ≡ 9 → ⊥) → (number ≡ 10 → ⊥) → ⊥
    order_else above not-stop not_nine not_ten =
        ordered_cases halt size work s room due (λ w q. not_ten q) (λ w y q. omega (arith, number_most s))
        (λ w z q. cases (sheet_of s) (λ h y. omega arith) (λ f c y. not-stop (q ∙ y)) (λ f c l y. not_nine (q ∙ y)) (λ f c l y. omega arith))

    module _ (reads : Reads s (reading s)) (only : Only s) where
      read_none : (d : Decoded) → IsSheet s d → sheet_number s ≡ 0
      read_none d x = sym reads.number ∙ reads.exactly.1 (d, x.in_bounds, x.bytes)

      found : sheet_number s ≡ 0 → IsSheet s (sheet_of s)
      unfolding sheet_of
      found e =
          let h = answered (reading s) (reads.number ∙ e) in
          record { in_bounds = rw h.1 (IfOk-at_ok _ h.1 reads.fits).ok; bytes = rw h.1 (IfOk-at_ok _ h.1 reads.same) }

      -- where the bytes are a sheet's, the number is what is due of it
      judged : work ≡ true → (d : Decoded) → IsSheet s d → number ≡ due_number d (halt d) (size d) room
      judged w d x =
          ordered_cases halt size work s room due (λ v q. both_ways w v) (λ v bad q. absurd (bad (read_none d x)))
          (λ v z q. subst (λ (y : Decoded). number ≡ due_number y (halt y) (size y) room) (only_is only d x) q)

      -- and where they are not, the sheet's
      bad : work ≡ true → (((d : Decoded) × IsSheet s d) → ⊥) → (number ≡ sheet_number s) × (sheet_number s ≡ 0 → ⊥)
      bad w none =
          ordered_cases halt size work s room due (λ v q. both_ways w v) (λ v y q. (q, y))
          (λ v z q. absurd (none (sheet_of s, found z)))

      pub orders : InOrder stop Stopped Passes size work s room number
      orders =
          record {
            in_bounds = (λ e. (sheet_of s, found e), λ y. read_none y.0 y.1);
            short_work = (
              λ e. ordered_cases halt size work s room due (λ w q. w) (λ w y q. absurd (omega (arith, number_most s)))
                  (λ w z q. absurd (cases (sheet_of s) (λ h y. omega arith) (λ f c y. place.not_ten (omega arith))
                  (λ f c l y. omega arith) (λ f c l y. omega arith))),
              λ w. ordered_cases halt size work s room due (λ v q. q) (λ v y q. both_ways v w) (λ v z q. both_ways v w),
            );
            bad_sheet = λ w. (
              λ e y. let q = judged w y.0 y.1 in
                  cases y.0 (λ h z. omega (arith, e.0, e.1, q)) (λ f c z. omega (arith, place.above, e.0, e.1, q))
                  (λ f c l z. omega (arith, e.0, e.1, q)) (λ f c l z. omega (arith, e.0, e.1, q)),
              λ none. let x = bad w none in (some (sheet_number s) x.1 x.0, omega (arith, x.0, number_most s)),
            );
            cause = λ w none. (bad w none).0;
            too_many = λ w d x. let q = judged w d x in (
              λ e. cases d (λ h y. (too_many_iff d).1 h) (λ f c y. absurd (omega (arith, place.above, q)))
                  (λ f c l y. absurd (omega (arith, q))) (λ f c l y. absurd (omega (arith, q))),
              λ m. q ∙ due_many d _ _ _ ((too_many_iff d).0 m),
            );
            stopped = λ w d x few. let q = judged w d x in
                let fits = few_fit d few in (
                  λ e. cases d (λ h y. absurd (omega (arith, fits))) (λ f c y. (place.stops d fits).0 c)
                      (λ f c l y. absurd (place.not_nine (omega (arith, q)))) (λ f c l y. absurd (omega (arith, place.above, q))),
                  λ u. q ∙ halted d fits ((place.stops d fits).1 u),
                );
            short_result = λ w d x few p. let q = judged w d x in
                let fits = few_fit d few in
                let free = (place.passes d fits).1 p in (
                  λ e. cases d (λ h y. absurd (omega (arith, fits))) (λ f c y. both_ways c free) (λ f c l y. l)
                      (λ f c l y. absurd (omega (arith, q))),
                  λ l. q ∙ due_short d _ _ _ fits (passed d free) l,
                );
            exactly = (
              λ e. ordered_cases halt size work s room due (λ w q. absurd (omega arith)) (λ w y q. absurd (y (omega arith)))
                  (λ w z q. cases (sheet_of s) (λ h y. absurd (omega arith)) (λ f c y. absurd (omega (arith, place.above)))
                  (λ f c l y. absurd (omega arith))
                  (λ f c l y. (sheet_of s, found z, λ m. omega (arith, f, (too_many_iff (sheet_of s)).0 m), (place.passes (sheet_of s) f).0 c, w, l))),
              λ y. let fits = few_fit y.0 y.2 in
                  judged y.4 y.0 y.1 ∙ due_none y.0 _ _ _ fits (passed y.0 ((place.passes y.0 fits).1 y.3)) y.5,
            );
          }
        where
          some : (n : ℕ) → (n ≡ 0 → ⊥) → number ≡ n → 1 ≤ number
          some zero y q = absurd (y refl)
          some (suc n) y q = omega arith

    -- the reader's laws hold of any bytes
    pub orders_bytes : Bytes s → InOrder stop Stopped Passes size work s room number
    orders_bytes bytes = orders (reads s bytes) (only_read s)

-- a maker stops with 8 where the start is dropped
pub lost_stops : Stops 8 Unrealizable (λ d. Kept d (first_tuple d)) lost_number
unfolding lost_number
lost_stops =
    record {
      above = omega arith;
      not_nine = λ e. omega arith;
      not_ten = λ e. omega arith;
      closed = λ d. not (is_in (dropped_of d) 0);
      halts = λ d. by_test (is_in (dropped_of d) 0) (λ y. rw y) (λ y. rw y);
      stops = λ d fits. (λ e. (start_out d fits).0 (not-true _ e), λ u. rw ((start_out d fits).1 u));
      passes = λ d fits. (λ e. (start_in d fits).0 (not-false _ e), λ k. rw ((start_in d fits).1 k));
    }

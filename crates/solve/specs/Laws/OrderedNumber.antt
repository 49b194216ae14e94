-- The number of a call that solves a sheet, whatever stands in the place of 8. `ok` says that the work memory is long enough.
-- Assumes nothing.
use Rattle.std.specs.Prelude.{◌≡◌, Bool, false, cond, List, eqb, length}
use Rattle.std.proofs.Math.Path.{refl, sym}
use Rattle.std.proofs.Common.{ap, ◌∙◌, subst, arith}
use Rattle.std.proofs.Math.Bool.{true}
use Prim.Native.Nat.{ℕ, zero, suc, ◌≤◌, ◌<◌}
use borrow.Author.Tests.{lt-ltb, le-ltb, le-leb, lt-leb, ne_eqb}
use Rattle.records.specs.Laws.Tests.{by_test}
use Rattle.records.specs.Meaning.Limits.{max_states}
use Rattle.sheet.specs.Meaning.Decoded.{Decoded}
use Rattle.sheet.specs.Meaning.Grounds.{ground_number}
use Rattle.sheet.specs.Meaning.Refusals.{sheet_number, first_number}
use Rattle.sheet.specs.Laws.Grounds.{some_number}
use Rattle.sheet.specs.declared.layout.Refusal.{Refusal}
use Rattle.product.specs.Model.ProductNumbering.{state_count}
use Rattle.rounds.specs.Model.TableRounds.{is_in}
use Rattle.solve.specs.Model.Steps.{dropped_of}
use Rattle.solve.specs.Model.Making.{sheet_of, many_number, lost_number, room_number, table_number, making_number, due_number, ordered_number}
use Rattle.solve.specs.Model.SolvingSheet.{solving_number, SolvedSheet}
use Rattle.solve.specs.Model.Opening.{opening_number}
use Rattle.solve.specs.declared.solving.Solved.{Solved}
use Rattle.solve.specs.Laws.Solving.{numbering_fits}

-- ---- a refusal

-- its number is not that of an answer
pub refused-off : (g : Refusal) → eqb (ground_number g) 0 ≡ false
refused-off g = let n = some_number g in ne_eqb (ground_number g) 0 (λ z. omega (arith, n.1))

-- ---- a sheet in bounds

module _ (d : Decoded) (stop size room : ℕ) where
  -- each of them where it is due, and none
  pub due_many : max_states < state_count d → due_number d stop size room ≡ 7
  unfolding due_number many_number
  due_many h = rw (lt-ltb max_states (state_count d) h)

  module _ (fits : state_count d ≤ max_states) where
    pub due_past : due_number d stop size room ≡ first_number stop (room_number size room)
    unfolding due_number many_number
    due_past = rw (le-ltb max_states (state_count d) fits)

    pub due_short : stop ≡ 0 → room < size → due_number d stop size room ≡ 9
    unfolding room_number
    due_short e h = due_past ∙ rw (e, lt-leb size room h)

    pub due_none : stop ≡ 0 → size ≤ room → due_number d stop size room ≡ 0
    unfolding room_number
    due_none e h = due_past ∙ rw (e, le-leb size room h)

-- ---- any bytes

module _ (stop size : Decoded → ℕ) (ok : Bool) (s : List ℕ) (room : ℕ) where
  -- a refusal of solving comes first
  pub ordered_first : {m : ℕ} → solving_number ok s ≡ suc m → ordered_number stop size ok s room ≡ suc m
  unfolding solving_number ordered_number due_number
  ordered_first {m} = go ok
    where
      on : (a b c : ℕ) → first_number a b ≡ suc m → first_number a (first_number b c) ≡ suc m
      on zero zero c e = absurd (omega arith)
      on zero (suc b) c e = e
      on (suc a) b c e = e

      go : (b : Bool) → cond b (first_number (sheet_number s) (many_number (sheet_of s))) 10 ≡ suc m
          → cond b (first_number (sheet_number s) (due_number (sheet_of s) (stop (sheet_of s)) (size (sheet_of s)) room)) 10 ≡ suc m
      go true e = on (sheet_number s) (many_number (sheet_of s)) _ e
      go false e = e

  -- which is a ground's
  pub ordered_refused : (g : Refusal) → ground_number g ≡ solving_number ok s → ground_number g ≡ ordered_number stop size ok s room
  ordered_refused g e = let n = some_number g in n.1 ∙ sym (ordered_first (sym e ∙ n.1))

  -- where there is none, the number in the place of 8 is due, and then 9
  pub ordered_past : ok ≡ true → sheet_number s ≡ 0 → state_count (sheet_of s) ≤ max_states
      → ordered_number stop size ok s room ≡ first_number (stop (sheet_of s)) (room_number (size (sheet_of s)) room)
  unfolding ordered_number
  ordered_past long none fits = rw (long, none) (due_past (sheet_of s) (stop (sheet_of s)) (size (sheet_of s)) room fits)

  -- the number is 10, the sheet's, or what is due of a sheet in bounds
  pub ordered_cases {ℓ} : {X : Type ℓ} {number : ℕ} → number ≡ ordered_number stop size ok s room
      → (ok ≡ false → number ≡ 10 → X)
      → (ok ≡ true → (sheet_number s ≡ 0 → ⊥) → number ≡ sheet_number s → X)
      → (ok ≡ true → sheet_number s ≡ 0 → number ≡ due_number (sheet_of s) (stop (sheet_of s)) (size (sheet_of s)) room → X) → X
  unfolding ordered_number
  ordered_cases {X = X} {number = number} e short bad judged =
      by_test ok (λ w. go w (sheet_number s) refl (e ∙ rw w)) (λ w. short w (e ∙ rw w))
    where
      go : ok ≡ true → (n : ℕ) → sheet_number s ≡ n
          → number ≡ first_number n (due_number (sheet_of s) (stop (sheet_of s)) (size (sheet_of s)) room) → X
      go w zero z q = judged w z q
      go w (suc n) z q = bad w (λ y. omega arith) (q ∙ sym z)

-- ---- a solved sheet

module _ {ok : Bool} {s : List ℕ} {r : Solved} {tuples cells dropped : List ℕ} (solved : SolvedSheet ok s r tuples cells dropped) where
  -- its states are not too many
  pub solved_few : state_count (sheet_of s) ≤ max_states
  solved_few = subst (λ (d : Decoded). state_count d ≤ max_states) solved.same (numbering_fits solved.solution.numbering)

  -- whether its start is kept
  pub solved_start : is_in (dropped_of (sheet_of s)) 0 ≡ r.start
  solved_start = ap (λ (d : Decoded). is_in (dropped_of d) 0) (sym solved.same) ∙ sym solved.solution.start_kept

  -- so what is due is past 7
  pub solved_past : (stop size : Decoded → ℕ) (room : ℕ)
      → ordered_number stop size ok s room ≡ first_number (stop (sheet_of s)) (room_number (size (sheet_of s)) room)
  solved_past stop size room = ordered_past stop size ok s room solved.long solved.none solved_few

-- ---- whose number it is

-- 8 is not due where the start is kept
pub lost_none : (d : Decoded) → is_in (dropped_of d) 0 ≡ true → lost_number d ≡ 0
unfolding lost_number
lost_none d e = rw e

-- a maker's, with 8 in its place, of a sheet in bounds
pub table_due : (d : Decoded) (size room : ℕ) → table_number d size room ≡ due_number d (lost_number d) size room
unfolding table_number due_number
table_due d size room = refl

-- and of any bytes
pub making_ordered : (table : Decoded → List ℕ) (work : Bool) (s : List ℕ) (room : ℕ)
    → making_number table work s room ≡ ordered_number lost_number (λ d. length (table d)) work s room
unfolding making_number table_number due_number ordered_number
making_ordered table work s room = refl

-- the opening's: an answer of no bytes always fits
pub opening_ordered : (work : Bool) (s : List ℕ) → opening_number work s ≡ ordered_number lost_number (λ d. 0) work s 0
unfolding opening_number ordered_number due_number room_number
opening_ordered work s =
    ap (λ (n : ℕ). cond work (first_number (sheet_number s) (first_number (many_number (sheet_of s)) n)) 10) (last (lost_number (sheet_of s)))
  where
    last : (n : ℕ) → n ≡ first_number n 0
    last zero = refl
    last (suc n) = refl

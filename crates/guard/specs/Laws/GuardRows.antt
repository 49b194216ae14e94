-- The rows of a guard table: the model's table has a row for each state of the guard as first met, and no other table has.
-- Assumes nothing.
use Rattle.std.specs.Prelude.{◌≡◌, refl, true, List, length, get_or}
use Rattle.std.proofs.Math.Path.{sym, ap}
use Rattle.std.proofs.Common.{◌∙◌, subst, arith}
use Prim.Native.Nat.{ℕ, ◌≤◌, ◌<◌}
use Rattle.std.proofs.Math.Dec.{eqb}
use Rattle.records.specs.Meaning.Limits.{max_states}
use Rattle.records.specs.Laws.Lists.{length-tab}
use Rattle.guard_table.specs.Meaning.RowKind.{narrow_most, kind_for}
use Rattle.guard_table.specs.Meaning.GuardTable.{table_in}
use Rattle.guard_table.specs.Meaning.NarrowTable.{narrow_table}
use Rattle.guard_table.specs.declared.kind.RowKind.{RowKind}
use Rattle.guard_table.specs.Laws.RowKind.{kind_narrow}
use Rattle.guard_table.specs.Laws.GuardTable.{table_ext, table_narrow}
use Rattle.sheet.specs.Meaning.Decoded.{Decoded, SheetOk, input_lines}
use Rattle.product.specs.Meaning.Step.{inputs_of, advance, first_tuple}
use Rattle.product.specs.Model.ProductNumbering.{state_count, state_of, number_of}
use Rattle.product.specs.Meaning.States.{ProductStates}
use Rattle.product.specs.Laws.ProductNumbering.{first_state, state_number}
use Rattle.product.specs.Laws.Ordered.{states_counted}
use Rattle.game.specs.Model.Numbering.{here, there}
use Rattle.game.specs.Laws.Numbering.{distinct_number}
use Rattle.game.specs.Laws.Explored.{explored_first-met}
use Rattle.game.specs.Laws.OnlyNumbering.{only_numbering}
use Rattle.rounds.specs.Model.TableRounds.{is_in}
use Rattle.solve.specs.Model.Steps.{dropped_of}
use Rattle.solve.specs.Meaning.Allowed.{Kept}
use Rattle.solve.specs.Laws.StateGrounds.{start_in}
use Rattle.values.specs.Model.GuardStates.{chosen, follows, guard_states}
use Rattle.values.specs.Laws.GuardNumbering.{eqb-sound, eqb_self}
use Rattle.plan.specs.Laws.Best.{choice_is}
use Rattle.plan.specs.Model.Playing.{KeptNumber}
use Rattle.plan.specs.Laws.Reaching.{Winning, inside_winning, follows_lands, Met, met_inside, guard_inside, guard_fits}
use Rattle.plan.specs.Laws.Answered.{length_over}
use Rattle.guard.specs.Meaning.Faithful.{Move, Chosen, begin, onward, MoveBy, GuardStates}
use Rattle.plan.specs.Model.GuardOfSheet.{sheet_game, choices_of, guard_of, guard_count, output_of, next_of, guard_over}
use Rattle.guard.specs.Promises.GuardMaker.{Rows}
use Rattle.guard.specs.Laws.Representing.{tuples_of, tuple_at_lem, start_winning, choice_moves, move_is, move_winning, represents}

module _ (d : Decoded) (ok : SheetOk d) (fits : state_count d ≤ max_states) (realizable : Kept d (first_tuple d)) (h : ℕ) where
  start : is_in (dropped_of d) 0 ≡ true
  start = (start_in d fits).1 realizable

  -- ---- the states that chosen outputs meet, by number, are those that moves reach

  -- the chosen output of a state that is in is the move at its tuple
  chosen_move : (k i : ℕ) → KeptNumber d k → i < inputs_of d → Move d h (state_of d k) i (chosen (sheet_game d) (choices_of d h) k i)
  chosen_move k i q hi =
      rw (choice_is d ok fits h k q i hi) (choice_moves d fits realizable h ok (state_of d k) i (inside_winning d fits k q) hi)

  -- and there is no other
  move_chosen : (k i o : ℕ) → KeptNumber d k → i < inputs_of d → Move d h (state_of d k) i o → o ≡ chosen (sheet_game d) (choices_of d h) k i
  move_chosen k i o q hi m =
      move_is d fits realizable h ok (state_of d k) i o (inside_winning d fits k q) hi m ∙ sym (choice_is d ok fits h k q i hi)

  met-chosen : (k : ℕ) → Met d fits h k → Chosen d h (state_of d k)
  met-chosen k here = rw (first_state d) begin
  met-chosen k (there {s = q} i r hi e) =
      let inside : KeptNumber d q = met_inside d fits h start q r in
      subst (Chosen d h) (sym (follows_lands d fits h q i inside hi)) (onward i _ (met-chosen q r) hi (chosen_move q i inside hi))

  chosen-met : (t : List ℕ) → Chosen d h t → (k : ℕ) × Met d fits h k × (state_of d k ≡ t)
  chosen-met t begin = (0, here, first_state d)
  chosen-met t (onward {t = u} i o c hi m) =
      let x = chosen-met u c in
      let k : ℕ = x.0 in
      let inside : KeptNumber d k = met_inside d fits h start k x.1 in
      let same : o ≡ chosen (sheet_game d) (choices_of d h) k i =
      move_chosen k i o inside hi (subst (λ (z : List ℕ). Move d h z i o) (sym x.2) m) in (
        follows (sheet_game d) (choices_of d h) k i,
        there i x.1 hi refl,
        follows_lands d fits h k i inside hi ∙ ap (advance d (state_of d k) i) (sym same) ∙ ap (λ (z : List ℕ). advance d z i o) x.2,
      )

  -- a number's step by its chosen output is the tuple's by its move
  leads : (k i : ℕ) → Met d fits h k → i < inputs_of d → MoveBy d h (state_of d k) i (state_of d (follows (sheet_game d) (choices_of d h) k i))
  leads k i r hi =
      let inside : KeptNumber d k = met_inside d fits h start k r in
      record {
        input_low = hi;
        output = chosen (sheet_game d) (choices_of d h) k i;
        move = chosen_move k i inside hi;
        lands = sym (follows_lands d fits h k i inside hi);
      }

  led : (k i : ℕ) (u : List ℕ) → Met d fits h k → MoveBy d h (state_of d k) i u
      → (i < inputs_of d) × (true ≡ true) × (state_of d (follows (sheet_game d) (choices_of d h) k i) ≡ u)
  led k i u r m =
      let inside : KeptNumber d k = met_inside d fits h start k r in (
        m.input_low,
        refl,
        follows_lands d fits h k i inside m.input_low
            ∙ ap (advance d (state_of d k) i) (sym (move_chosen k i m.output inside m.input_low m.move)) ∙ m.lands,
      )

  -- ---- the list of their tuples

  size : length (tuples_of d h) ≡ guard_count d h
  size = length-tab (guard_count d h) _

  numbered : GuardStates d h (tuples_of d h)
  unfolding guard_count guard_of guard_states sheet_game
  numbered =
      rw (first_state d) at
      (explored_first-met ℕ eqb (inputs_of d) (λ k i. true) (λ k i. follows (sheet_game d) (choices_of d h) k i) 0 eqb-sound eqb_self
      (List ℕ) (Chosen d h) (MoveBy d h) (state_of d) met-chosen chosen-met
      (λ k q r s e.
      sym (state_number d fits k (met_inside d fits h start k r).low) ∙ ap (number_of d) e
      ∙ state_number d fits q (met_inside d fits h start q s).low)
      (λ k i r hi e. leads k i r hi) led (state_count d) (guard_fits d fits h start) (tuples_of d h) size
      (λ j l. rw (first_state d) (tuple_at_lem d h j l)))

  winning : (k : ℕ) → k < guard_count d h → Winning d (get_or (tuples_of d h) k (first_tuple d))
  winning k l = rw (tuple_at_lem d h k l) (inside_winning d fits (get_or (guard_of d h) k 0) (guard_inside d fits h start k l))

  -- the model's table has these rows
  pub table-rows : Rows d h (guard_count d h) (guard_over d h)
  table-rows =
      let r = represents d fits realizable h ok in
      record {
        tuples = tuples_of d h;
        count = size;
        numbered = numbered;
        output = output_of d h;
        next = next_of d h;
        bytes = unfold guard_over in refl;
        size = length_over d h;
        moves = λ k i l hi. r.moves k i l (winning k l) hi;
        next_low = λ k i l hi. r.low k i l (winning k l) hi;
        lands = λ k i l hi. r.lands k i l (winning k l) hi;
      }

  -- ---- there is no other

  -- moves reach winning tuples
  chosen_winning : (t : List ℕ) → Chosen d h t → Winning d t
  chosen_winning t begin = start_winning d fits realizable h
  chosen_winning t (onward {t = u} i o c hi m) = move_winning d fits realizable h ok u i o (chosen_winning u c) hi m

  one_move : (t : List ℕ) (i o q : ℕ) → Chosen d h t → i < inputs_of d → Move d h t i o → Move d h t i q → o ≡ q
  one_move t i o q c hi x y =
      move_is d fits realizable h ok t i o (chosen_winning t c) hi x
      ∙ sym (move_is d fits realizable h ok t i q (chosen_winning t c) hi y)

  generated : (P : List ℕ → Type 0) → P (first_tuple d) → ((t u : List ℕ) (i : ℕ) → Chosen d h t → P t → MoveBy d h t i u → P u)
      → (t : List ℕ) → Chosen d h t → P t
  generated P p step t begin = p
  generated P p step t (onward {t = u} i o c hi m) =
      step u t i c (generated P p step u c) (record { input_low = hi; output = o; move = m; lands = refl })

  guard_states_once : (L K : List (List ℕ)) → GuardStates d h L → GuardStates d h K → L ≡ K
  guard_states_once =
      only_numbering (List ℕ) (Chosen d h) (MoveBy d h) (first_tuple d)
      (record {
        begins = begin;
        closed = λ t u i c m. subst (Chosen d h) m.lands (onward i m.output c m.input_low m.move);
        only = generated;
      })
      (λ t u v i c x y.
      sym x.lands ∙ ap (advance d t i) (one_move t i x.output y.output c x.input_low x.move y.move) ∙ y.lands)

  module _ {n m : ℕ} {t u : List ℕ} (x : Rows d h n t) (y : Rows d h m u) where
    same_tuples : x.tuples ≡ y.tuples
    same_tuples = guard_states_once x.tuples y.tuples x.numbered y.numbered

    same_count : n ≡ m
    same_count = sym x.count ∙ ap length same_tuples ∙ y.count

    module _ (k i : ℕ) (hn : k < n) (hi : i < inputs_of d) where
      hm : k < m
      hm = omega (arith, same_count)

      -- row k is that of one tuple in both
      at : (j : ℕ) → get_or y.tuples j (first_tuple d) ≡ get_or x.tuples j (first_tuple d)
      at j = ap (λ (l : List (List ℕ)). get_or l j (first_tuple d)) (sym same_tuples)

      same_output : x.output k i ≡ y.output k i
      same_output =
          one_move (get_or x.tuples k (first_tuple d)) i (x.output k i) (y.output k i)
          (x.numbered.each k (omega (arith, x.count))) hi (x.moves k i hn hi)
          (subst (λ (z : List ℕ). Move d h z i (y.output k i)) (at k) (y.moves k i hm hi))

      same_next : x.next k i ≡ y.next k i
      same_next =
          let low = x.next_low k i hn hi in
          let low' = y.next_low k i hm hi in
          let to : get_or x.tuples (x.next k i) (first_tuple d) ≡ get_or x.tuples (y.next k i) (first_tuple d) =
          x.lands k i hn hi ∙ ap (advance d (get_or x.tuples k (first_tuple d)) i) same_output
          ∙ ap (λ (z : List ℕ). advance d z i (y.output k i)) (sym (at k)) ∙ sym (y.lands k i hm hi) ∙ at (y.next k i) in
          distinct_number (first_tuple d) x.tuples x.numbered.once (x.next k i) (y.next k i)
          (omega (arith, x.count, low)) (omega (arith, x.count, same_count, low')) to

    -- two tables with these rows are one
    pub only_rows : (n ≡ m) × (t ≡ u)
    only_rows =
        let entries = table_ext (kind_for n) d.mode (input_lines d) d.outputs h n x.output x.next y.output y.next
        (λ k i hn hi. same_output k i hn hi) (λ k i hn hi. same_next k i hn hi) in
        (same_count, x.bytes ∙ entries ∙ rw same_count (sym y.bytes))

  -- there are no more rows than product states
  pub rows_few : {n : ℕ} {t : List ℕ} → Rows d h n t → n ≤ state_count d
  rows_few r = omega (arith, (only_rows r table-rows).0, guard_fits d fits h start)

  -- ---- where there are at most 256 product states

  module _ (states : List (List ℕ)) (listed : ProductStates d states) (small : length states ≤ narrow_most) {n : ℕ} {t : List ℕ}
      (r : Rows d h n t) where
    -- the guard has no more, so its rows are narrow
    few : n ≤ narrow_most
    few = omega (arith, rows_few r, states_counted d fits states listed)

    pub narrow_rows : t ≡ narrow_table d.mode (input_lines d) d.outputs h n r.output r.next
    narrow_rows =
        r.bytes
        ∙ ap (λ (k : RowKind). table_in k d.mode (input_lines d) d.outputs h n r.output r.next) (kind_narrow n few)
        ∙ table_narrow d.mode (input_lines d) d.outputs h n r.output r.next

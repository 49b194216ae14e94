-- Why each entry can be read, and that the table has the chosen outputs and the guard states after them.
-- Assumes nothing.
use Rattle.std.specs.Prelude.{◌≡◌, refl, List, ℕ, ◌+◌, ◌-◌, ◌*◌, ◌^◌, ◌≤◌, ◌<◌, eqb}
use Rattle.std.proofs.Common.{sym, ◌∙◌, arith}
use Rattle.std.proofs.Math.Path.{ap, subst}
use Rattle.std.proofs.Math.Arith.{digits_lt}
use Rattle.std.proofs.Math.ListN.{length, get_or}
use Rattle.records.specs.Meaning.Limits.{max_outs}
use Rattle.records.specs.Model.Digits.{packed}
use Rattle.records.specs.Laws.Digits.{digit-packed}
use Rattle.rounds.specs.Laws.CellPlaces.{row_in_table}
use Rattle.game.specs.Model.Numbering.{there, find}
use Rattle.guard_table.specs.Meaning.GuardTable.{guard_table}
use Rattle.guard_table.specs.Meaning.RowKind.{kind_for}
use Rattle.guard_table.specs.Laws.RowKind.{kind_names}
use Rattle.guard_table.specs.Laws.GuardTable.{table_ext}
use Rattle.values.specs.Model.Values.{Game, cell_next}
use Rattle.values.specs.Model.GuardStates.{chosen, follows, guard_states}
use Rattle.values.specs.Model.GuardNumbering.{GuardReached, Following}
use Rattle.values.specs.Laws.GuardNumbering.{entry_met, stage_fits, stage-reached, guard-exactly}
use Rattle.guard_rows.specs.Model.Entered.{output_by, next_by, numbered, table_by, Entered, Tabled}
use Rattle.guard_rows.specs.Model.Guarded.{Guarded}

-- ---- a row of chosen outputs

module _ {g : Game} {choices : List ℕ} {n : ℕ} (following : Following g choices n) {k : ℕ} (state : k < n) where
  output : (i : ℕ) → i < g.ins → chosen g choices k i < g.outs
  unfolding chosen
  output i h = following.output _ (digits_lt state h)

  -- its digits are these
  pub row-digit : g.outs ≤ max_outs → {row : ℕ} → row ≡ packed max_outs g.ins (chosen g choices k)
      → (i : ℕ) → i < g.ins → output_by row i ≡ chosen g choices k i
  row-digit most e i h =
      rw e (digit-packed max_outs (omega arith) g.ins (chosen g choices k) (λ x l. omega (arith, output x l)) i h)

-- ---- the table

module _ {g : Game} {choices rows order numbers : List ℕ} {n count : ℕ} (following : Following g choices n)
    (guarded : Guarded g choices n rows order numbers count) where
  abbrev states : List ℕ
  states = guard_states g choices n

  -- there are at most n of them
  pub count_most : count ≤ n
  unfolding guard_states
  count_most = rw guarded.numbered.counted (stage_fits g choices n following.closed n)

  -- each is reached
  reached : (j : ℕ) → j < count → GuardReached g choices (get_or order j 0)
  unfolding guard_states
  reached j h =
      let low : j < length states = omega (arith, guarded.numbered.counted) in
      subst (GuardReached g choices) (sym (guarded.numbered.states j low))
      (stage-reached g choices n following.closed n j low)

  low : (j : ℕ) → j < count → get_or order j 0 < n
  low j h = following.closed _ (reached j h)

  -- and its row's digits are its chosen outputs
  module _ (outs-most : g.outs ≤ max_outs) where
    pub row-chosen : (j i : ℕ) → j < count → i < g.ins → output_by (get_or rows j 0) i ≡ chosen g choices (get_or order j 0) i
    row-chosen j i hj hi =
        row-digit following (low j hj) outs-most
        (rw (guarded.numbered.states j (omega (arith, guarded.numbered.counted))) (guarded.rows_chosen j hj)) i hi

    next_chosen : (j i : ℕ) → j < count → i < g.ins → next_by g (get_or rows j 0) (get_or order j 0) i ≡ follows g choices (get_or order j 0) i
    unfolding follows
    next_chosen j i hj hi = ap (cell_next g (get_or order j 0) i) (row-chosen j i hj hi)

    pub number_chosen : (j i : ℕ) → j < count → i < g.ins
        → numbered g (get_or rows j 0) numbers (get_or order j 0) i ≡ get_or numbers (follows g choices (get_or order j 0) i) 0 - 1
    unfolding numbered
    number_chosen j i hj hi = ap (λ (k : ℕ). get_or numbers k 0 - 1) (next_chosen j i hj hi)

    -- so the table is that of the chosen outputs
    pub table-chosen : (mode lines outs horizon : ℕ) → g.ins ≡ 2 ^ lines
        → table_by mode lines outs horizon count g rows order numbers
        ≡ guard_table mode lines outs horizon count (λ j. chosen g choices (get_or order j 0))
        (λ j i. get_or numbers (follows g choices (get_or order j 0) i) 0 - 1)
    table-chosen mode lines outs horizon e =
        table_ext (kind_for count) mode lines outs horizon count _ _ _ _ (λ j i hj hi. row-chosen j i hj (omega arith))
        (λ j i hj hi. number_chosen j i hj (omega arith))

    -- and its entries can be read
    module _ (rows_room : n ≤ length rows) (order_room : n ≤ length order) (numbers_room : n ≤ length numbers) where
      entered : (j : ℕ) → j < count → Entered (kind_for count) g (get_or rows j 0) numbers (get_or order j 0)
      entered j h =
          record {
            steps = omega (arith, row_in_table (g.ins * g.outs) (low j h), following.steps.rows);
            output = λ i hi. rw (row-chosen j i h hi) (output following (low j h) i hi);
            room = λ i hi. rw (next_chosen j i h hi) (omega (arith, next_low i hi));
            least = λ i hi. rw (next_chosen j i h hi, entry i hi) (omega arith);
            most = λ i hi. rw (next_chosen j i h hi, entry i hi)
                (omega (arith, kind_names count (omega (arith, count_most, following.states)), guarded.numbered.counted, has i hi));
          }
        where
          onward : (i : ℕ) → i < g.ins → GuardReached g choices (follows g choices (get_or order j 0) i)
          onward i hi = there i (reached j h) hi refl

          next_low : (i : ℕ) → i < g.ins → follows g choices (get_or order j 0) i < n
          next_low i hi = following.closed _ (onward i hi)

          has : (i : ℕ) → i < g.ins → find ℕ eqb (follows g choices (get_or order j 0) i) states < length states
          has i hi = (guard-exactly g choices n following.closed _).0 (onward i hi)

          entry : (i : ℕ) → i < g.ins
              → get_or numbers (follows g choices (get_or order j 0) i) 0 ≡ find ℕ eqb (follows g choices (get_or order j 0) i) states + 1
          entry i hi = guarded.numbered.entries _ (next_low i hi) ∙ entry_met states _ (has i hi)

      pub tabled : Tabled g rows order numbers count
      tabled =
          record {
            few = omega (arith, count_most, following.states);
            rows_room = omega (arith, count_most);
            order_room = omega (arith, count_most);
            entered = entered;
          }

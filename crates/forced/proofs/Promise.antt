-- The whole promise, from the answer by the model.
-- Assumes nothing.
use mathlib.Core.Path.{◌≡◌, refl, sym, ap, fun_ext, ◌∙◌, subst}
use mathlib.Core.Bool.{false}
use mathlib.Core.List.{List, ◌++◌}
use Prim.Native.Nat.{ℕ, ◌+◌, ◌≤◌}
use native.Mathlib.Nat.{mul-le-mul}
use native.Mathlib.Omega.{arith}
use Rattle.std.specs.Prelude.{Result}
use lib.Dec.{eqb}
use lib.ListN.{length, take, drop}
use lib.Seq.{take-append_seam}
use borrow.Author.Tests.{ne_eqb}
use Rattle.records.specs.Meaning.Limits.{max_states, max_outs}
use Rattle.records.specs.Meaning.Numbers.{Bytes}
use Rattle.records.specs.Meaning.Work.{long_enough, asked_bytes}
use Rattle.records.specs.Laws.Lists.{sets_front}
use Rattle.sheet.specs.Meaning.Decoded.{Decoded, HeadOk}
use Rattle.product.specs.Model.ProductNumbering.{state_count}
use Rattle.product.specs.Laws.Counts.{outputs_most}
use Rattle.product.specs.Laws.Outcome.{broken_by}
use Rattle.rounds.specs.Model.TableRounds.{is_in}
use Rattle.forced_rows.specs.Meaning.ForcedBytes.{forced_length}
use Rattle.forced_rows.specs.Laws.ForcedRows.{length_forced_rows}
use Rattle.solve.specs.Meaning.Allowed.{TooMany, Unrealizable, IsSheet}
use Rattle.solve.specs.Model.Steps.{cells_of, dropped_of}
use Rattle.solve.specs.Model.Making.{sheet_of}
use Rattle.solve.specs.Laws.StateGrounds.{start_in, start_out}
use Rattle.solve.specs.Laws.RefusalOrder.{few_fit, only_read, only_is, Stops, order_else, orders_bytes}
use Rattle.solve.specs.Promises.RefusalOrder.{InOrder}
use Rattle.forced.specs.Meaning.Answer.{play_number, play_length, play_states}
use Rattle.forced.specs.Meaning.Play.{Realizable}
use Rattle.forced.specs.Model.ForcedOfSheet.{forced_of, forced_size, held_number, Plays}
use Rattle.forced.specs.Laws.Shown.{shows}
use Rattle.forced.specs.Promises.ForcedMaker.{forced_work, ShowsPlay, Played, Unplayed, MakesForced}
use Rattle.solve.specs.declared.made.Made.{Made}
use Rattle.forced.specs.declared.answer.Ground.{Ground}
use Rattle.forced.specs.Laws.Only.{only_answer}

-- so many bytes, and never more than these
length_is : (d : Decoded) → length (forced_of d) ≡ forced_size d
unfolding forced_of forced_size
length_is d = length_forced_rows (cells_of d) (dropped_of d) _ _ (state_count d)

size_most : (d : Decoded) → HeadOk d → state_count d ≤ max_states → forced_size d ≤ forced_length max_outs max_states
unfolding forced_size forced_length
size_most d head few = mul-le-mul {m₂ = 3 + max_outs} few (omega (arith, outputs_most d head))

module _
    {s before : List ℕ} {r : Result Made Ground} {after : List ℕ} (lent : List ℕ) (plays : Plays (long_enough forced_work lent) s before r after)
    (same : (d : Decoded) → IsSheet s d → sheet_of s ≡ d)
    (order : InOrder 23 Realizable Unrealizable (λ d. length (forced_of d)) (long_enough forced_work lent) s (length before) (play_number r))
  where
    -- what the answer of a sheet says
    says : (d : Decoded) → IsSheet s d → (TooMany d → ⊥) → ShowsPlay d (state_count d) (forced_of d)
    says d x few = shows d (few_fit d few) x.in_bounds

    -- the answer was written
    wrote : play_number r ≡ 0 → (d : Decoded) → IsSheet s d → Played d before r after
    wrote e d x =
        let found = order.exactly.0 e in
        let one : found.0 ≡ d = sym (same found.0 found.1) ∙ same d x in
        let few : TooMany d → ⊥ = subst (λ (y : Decoded). TooMany y → ⊥) one found.2 in
        let room : length (forced_of d) ≤ length before = subst (λ (y : Decoded). length (forced_of y) ≤ length before) one found.5 in
        let size : play_length r ≡ length (forced_of d) = plays.size ∙ rw e (ap forced_size (same d x)) ∙ sym (length_is d) in
        let states : play_states r ≡ state_count d = plays.states ∙ rw e (ap state_count (same d x)) in
        let bytes : after ≡ forced_of d ++ drop (length (forced_of d)) before =
        plays.bytes ∙ rw (e, same d x, sets_front before (forced_of d) room) in
        let front : take (play_length r) after ≡ forced_of d =
        rw (size, bytes) (take-append_seam (forced_of d) (drop (length (forced_of d)) before)) in
        record {
          size = size;
          most = rw (size, length_is d) (size_most d x.in_bounds.head (few_fit d few));
          states = states;
          bytes = bytes;
          shows = rw (states, front) (says d x few);
        }

    -- or nothing was
    unwrote : (play_number r ≡ 0 → ⊥) → Unplayed before r after
    unwrote e =
        let off : eqb (play_number r) 0 ≡ false = ne_eqb (play_number r) 0 e in
        record { size = plays.size ∙ rw off; states = plays.states ∙ rw off; bytes = plays.bytes ∙ rw off }

    forced_makes : (play_number r ≡ 8 → ⊥) → MakesForced s before lent r after
    unfolding asked_bytes
    forced_makes not_eight =
        record {
          plays = plays;
          ordered = order;
          never_eight = not_eight;
          played = wrote;
          unplayed = unwrote;
          shows = says;
          only = λ d x few n bytes y. only_answer d y (says d x few);
          broken_by = broken_by;
          work_bytes = omega arith;
        }

-- 23 in the place of 8, where the start is kept
held_stops : Stops 23 Realizable Unrealizable held_number
unfolding held_number
held_stops =
    record {
      above = omega arith;
      not_nine = λ e. omega arith;
      not_ten = λ e. omega arith;
      closed = λ d. is_in (dropped_of d) 0;
      halts = λ d. refl;
      stops = start_in;
      passes = start_out;
    }

pub forced_promise : {s before : List ℕ} {r : Result Made Ground} {after : List ℕ} (lent : List ℕ) → Bytes s
    → Plays (long_enough forced_work lent) s before r after → MakesForced s before lent r after
forced_promise {s} {before} {r} lent bytes plays =
    forced_makes lent plays (only_is (only_read s))
    (subst
    (λ (size : Decoded → ℕ).
    InOrder 23 Realizable Unrealizable size (long_enough forced_work lent) s (length before) (play_number r))
    (fun_ext (λ d. sym (length_is d)))
    (orders_bytes held_stops forced_size (long_enough forced_work lent) s (length before) (play_number r) plays.number bytes))
    (λ e. order_else held_stops forced_size (long_enough forced_work lent) s (length before) (play_number r) plays.number
    (omega arith) (λ q. omega arith) (λ q. omega arith) (λ q. omega arith))

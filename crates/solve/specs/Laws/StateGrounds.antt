-- Grounds 7 and 8 by the model, and what they mean: too many product states, and a start that cannot be survived.
-- Assumes nothing.
use Rattle.std.specs.Prelude.{◌≡◌, refl, ◌↔◌, true, false, List, [], ◌∷◌, ℕ, zero, suc, ◌≤◌, ◌<◌, length, get_or}
use Rattle.std.proofs.Common.{sym, ap, ◌∙◌, subst, not-suc-le-zero, le_of_suc-le-suc, arith}
use Rattle.records.specs.Meaning.Limits.{max_states}
use Rattle.sheet.specs.Meaning.Decoded.{Decoded}
use Rattle.product.specs.Meaning.Step.{first_tuple}
use Rattle.product.specs.Meaning.States.{Reached}
use Rattle.product.specs.Model.ProductNumbering.{state_count, number_of}
use Rattle.product.specs.Laws.ProductNumbering.{some_state, first_state, state_number, too_many}
use Rattle.game.specs.Meaning.Reachable.{begin}
use Rattle.rounds.specs.Model.TableRounds.{is_in}
use Rattle.solve.specs.Meaning.Allowed.{Kept, TooMany, Unrealizable}
use Rattle.solve.specs.Model.Steps.{dropped_of}
use Rattle.solve.specs.Laws.Entries.{in_iff, out_iff}

-- what stands past the end is not read
get_d_inside {ℓ} : {A : Type ℓ} (l : List A) (j : ℕ) (a b : A) → j < length l → get_or l j a ≡ get_or l j b
get_d_inside [] j a b h = absurd (not-suc-le-zero h)
get_d_inside (x ∷ l) zero a b h = refl
get_d_inside (x ∷ l) (suc j) a b h = get_d_inside l j a b (le_of_suc-le-suc h)

-- 513 distinct tuples are reachable exactly if the list of product states is longer than 512
pub too_many_iff : (d : Decoded) → TooMany d ↔ (max_states < state_count d)
too_many_iff d =
    let x = too_many d in (
      λ m. x.0 (
        m.tuples,
        m.many,
        λ i j h k e.
            m.distinct i j h k
            (get_d_inside m.tuples i [] (first_tuple d) (omega arith) ∙ e ∙ get_d_inside m.tuples j (first_tuple d) [] k),
        λ j k. subst (Reached d) (get_d_inside m.tuples j [] (first_tuple d) k) (m.reached j k),
      ),
      λ h.
          let y = x.1 h in
          record {
            tuples = y.0;
            many = y.1;
            reached = λ j k. subst (Reached d) (get_d_inside y.0 j (first_tuple d) [] k) (y.3 j k);
            distinct = λ i j u k e.
                y.2 i j u k
                (get_d_inside y.0 i (first_tuple d) [] (omega arith) ∙ e ∙ get_d_inside y.0 j [] (first_tuple d) k);
          },
    )

module _ (d : Decoded) (fits : state_count d ≤ max_states) where
  -- the tuple of the starts has number 0
  pub start_number : number_of d (first_tuple d) ≡ 0
  start_number = ap (number_of d) (sym (first_state d)) ∙ state_number d fits 0 (some_state d)

  -- the start is in exactly if every number of inputs can be survived from it
  pub start_in : (is_in (dropped_of d) 0 ≡ true) ↔ Kept d (first_tuple d)
  start_in = rw start_number at (in_iff d fits (first_tuple d) begin)

  -- and dropped exactly if the sheet is unrealizable
  pub start_out : (is_in (dropped_of d) 0 ≡ false) ↔ Unrealizable d
  start_out = rw start_number at (out_iff d fits (first_tuple d) begin)

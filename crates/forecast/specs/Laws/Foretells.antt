-- What the sheet's card says of its product states, and that no other card says it.
-- Assumes nothing.
use Rattle.std.specs.Prelude.{◌≡◌, refl, ◌↔◌, Bool, true, false, cond, List, ℕ, ◌*◌, ◌^◌, ◌≤◌, ◌<◌, length, get_or, Float}
use Rattle.std.proofs.Common.{sym, ap₂, ◌∙◌, arith, pow_pos, ext_get_or}
use Rattle.std.proofs.Math.Path.{ap, subst}
use Rattle.std.proofs.Math.Option.{Option, none, some}
use Rattle.std.proofs.Math.Decide.{dec_lt}
use Rattle.records.specs.Meaning.Limits.{max_states}
use Rattle.records.specs.Laws.Lists.{get_d_tab}
use Rattle.records.specs.Laws.Tests.{by_test}
use Rattle.game.specs.Laws.Extreme.{largest, smallest, value_by_none}
use Rattle.game.specs.Laws.Value.{value_none}
use Rattle.sheet.specs.Meaning.Decoded.{Decoded, SheetOk, input_lines}
use Rattle.product.specs.Meaning.Step.{inputs_of, outputs_of, advance, reward, first_tuple}
use Rattle.product.specs.Meaning.States.{Reached}
use Rattle.product.specs.Model.ProductNumbering.{product_states, state_count, state_of, number_of}
use Rattle.product.specs.Laws.ProductNumbering.{state_reached}
use Rattle.product.specs.Laws.Ordered.{product_states_lem, product_states_once}
use Rattle.rounds.specs.Model.TableRounds.{is_in}
use Rattle.solve.specs.Meaning.Allowed.{Kept, Lost}
use Rattle.solve.specs.Model.Steps.{dropped_of}
use Rattle.solve.specs.Laws.Entries.{in_iff, out_iff, state_in, state_out}
use Rattle.plan.specs.Model.Playing.{may_at, best_at}
use Rattle.plan.specs.Laws.Solved.{pow_pow}
use Rattle.averages.specs.Meaning.Averages.{average_of}
use Rattle.averages.specs.Laws.Averages.{exactly, zero_bits}
use Rattle.card.specs.Meaning.Card.{averages_in, lost_entry}
use Rattle.card.specs.Model.Card.{averages_of, card_entry_at}
use Rattle.card.specs.Laws.Card.{entry_averages, card_count, card_at, card_past}
use Rattle.card.specs.declared.Averages.{Averages}
use Rattle.card.specs.declared.Prospect.{Prospect}
use Rattle.card.specs.declared.Prospect.TheVariants as prospect
use Rattle.card.specs.declared.Prospect.TheVariants.{Worth}
use Rattle.card.specs.declared.Card.{Card}
use Rattle.forecast.specs.Meaning.Forecast.{KeptState, ExactAverage, WorthOf, MostEarned}
use Rattle.forecast.specs.Model.Forecast.{least_at, bests_of, leasts_of, forecast_card}
use Rattle.forecast.specs.Laws.Sums.{sum-earned, best_is, least_best, best_sum_most, least-sum_most}
use Rattle.forecast.specs.Promises.Forecast.{says_of, ForetellsWithin, Foretells}

-- ---- a kept state

module _ (d : Decoded) (ok : SheetOk d) where
  -- the words of the horizon
  words_are : inputs_of d ^ d.horizon ≡ 2 ^ (input_lines d * d.horizon)
  words_are = pow_pow 2 (input_lines d) d.horizon

  average_is : (sum : ℕ) → sum ≤ 2 ^ 53 → ExactAverage d d.horizon sum (average_of sum (inputs_of d ^ d.horizon))
  average_is sum most =
      rw words_are
      (record {
        most = most;
        exact = exactly sum (input_lines d * d.horizon) most (omega (arith, ok.horizon.product_most));
        float = refl;
        zero = λ z. rw z (zero_bits (2 ^ (input_lines d * d.horizon)) (pow_pos _));
      })

  module _ (fits : state_count d ≤ max_states) where
    worth_of : (t : List ℕ) → KeptState d t
        → WorthOf d d.horizon t (best_at d d.horizon t) (least_at d d.horizon t)
        (averages_of (best_at d d.horizon t) (least_at d d.horizon t) (inputs_of d ^ d.horizon))
    unfolding averages_of
    worth_of t kept =
        record {
          best_average = average_is _ (best_sum_most d ok t);
          least_average = average_is _ (least-sum_most d ok t);
          best_earned =
              subst (MostEarned d d.horizon t) (best_is d d.horizon t) (sum-earned d fits largest d.horizon t kept);
          least_earned = sum-earned d fits smallest d.horizon t kept;
          ordered = least_best d d.horizon t;
          none = λ z. (none_best d.horizon z, none_least d.horizon z);
        }
      where
        none_best : (h : ℕ) → h ≡ 0 → best_at d h t ≡ 0
        none_best h z =
            rw z (value_none (List ℕ) (inputs_of d) (outputs_of d) (advance d) (may_at d) (reward d) t)

        none_least : (h : ℕ) → h ≡ 0 → least_at d h t ≡ 0
        none_least h z =
            rw z (value_by_none (List ℕ) (inputs_of d) (outputs_of d) (advance d) (may_at d) (reward d) _ t)

    -- ---- the card

    -- the averages of product state k, where it is kept
    abbrev averages : ℕ → Averages
    averages k =
        averages_of (best_at d d.horizon (state_of d k)) (least_at d d.horizon (state_of d k)) (inputs_of d ^ d.horizon)

    -- its entry
    module _ (k : ℕ) (low : k < state_count d) where
      said : averages_in (says_of (forecast_card d) k)
          ≡ cond (is_in (dropped_of d) k) (some (averages k)) none
      unfolding forecast_card card_entry_at bests_of leasts_of is_in
      said =
          ap averages_in
          (card_at (dropped_of d) (bests_of d) (leasts_of d) (inputs_of d ^ d.horizon) (state_count d) k low (omega arith))
          ∙ entry_averages _ _ _ _
          ∙ rw (
            get_d_tab (state_count d) (λ j. best_at d d.horizon (state_of d j)) k 0 low,
            get_d_tab (state_count d) (λ j. least_at d d.horizon (state_of d j)) k 0 low,
          )

      lost_said : (averages_in (says_of (forecast_card d) k) ≡ none) ↔ Lost d (state_of d k)
      lost_said = (λ e. (state_out d fits k low).0 (absent (is_in (dropped_of d) k) _ (sym said ∙ e)), λ l. said ∙ rw ((state_out d fits k low).1 l))
        where
          absent : (b : Bool) (a : Averages) → cond b (some a) none ≡ none → b ≡ false
          absent true a e = absurd (let z : ◌≡◌ {A = ℕ} 0 1 = cc in omega arith)
          absent false a e = refl

      worth_said : Kept d (state_of d k)
          → (a : Averages) × (averages_in (says_of (forecast_card d) k) ≡ some a)
          × WorthOf d d.horizon (state_of d k) (best_at d d.horizon (state_of d k)) (least_at d d.horizon (state_of d k)) a
      worth_said kept =
          (averages k, said ∙ rw ((state_in d fits k low).1 kept), worth_of (state_of d k) (record { reached = state_reached d k low; kept = kept }))

    pub foretells : Foretells d (forecast_card d)
    unfolding forecast_card state_count state_of
    foretells =
        let count = card_count (dropped_of d) (bests_of d) (leasts_of d) (inputs_of d ^ d.horizon) (state_count d) in
        record {
          tuples = product_states d;
          numbered = product_states_lem d fits;
          count_is = count;
          few = rw count fits;
          lost = λ k h. lost_said k (rw count at h);
          worth = λ k h. worth_said k (rw count at h);
          past = λ k h l.
              ap averages_in
              (card_past (dropped_of d) (bests_of d) (leasts_of d) (inputs_of d ^ d.horizon) (state_count d) k (rw count at h));
        }

-- ---- no other card says it

-- what averages are in it tells a prospect
same_prospect : (p q : Prospect) → averages_in p ≡ averages_in q → p ≡ q
same_prospect prospect.Lost prospect.Lost e = refl
same_prospect prospect.Lost (Worth b) e = absurd (let z : ◌≡◌ {A = ℕ} 0 1 = cc in omega arith)
same_prospect (Worth a) prospect.Lost e = absurd (let z : ◌≡◌ {A = ℕ} 0 1 = cc in omega arith)
same_prospect (Worth a) (Worth b) e = let z : a ≡ b = cc in ap {B = Prospect} Worth z

-- the sums behind them tell averages
same-averages : (d : Decoded) {h : ℕ} {t : List ℕ} {most least : ℕ} {a b : Averages}
    → WorthOf d h t most least a → WorthOf d h t most least b → a ≡ b
same-averages d x y =
    ap₂ {C = Averages} (λ (p q : Float). record { best = p; least = q })
    (x.best_average.float ∙ sym y.best_average.float) (x.least_average.float ∙ sym y.least_average.float)

module _ (d : Decoded) (fits : state_count d ≤ max_states) {limit : ℕ} {c e : Card}
    (x : ForetellsWithin limit d c) (y : ForetellsWithin limit d e) where
  same_tuples : x.tuples ≡ y.tuples
  same_tuples = product_states_once d x.tuples y.tuples x.numbered y.numbered

  same_count : c.count ≡ e.count
  same_count = x.count_is ∙ ap length same_tuples ∙ sym y.count_is

  module _ (k : ℕ) (low : k < c.count) where
    abbrev t : List ℕ
    t = get_or x.tuples k (first_tuple d)

    one : t ≡ get_or y.tuples k (first_tuple d)
    one = ap (λ (l : List (List ℕ)). get_or l k (first_tuple d)) same_tuples

    also : k < e.count
    also = omega (arith, same_count)

    same_kept : Kept d t → averages_in (says_of c k) ≡ averages_in (says_of e k)
    same_kept kept =
        let a = x.worth k low kept in
        let b = y.worth k also (subst (Kept d) one kept) in
        a.1
        ∙ ap {B = Option Averages} some
        (same-averages d a.2
        (subst (λ (u : List ℕ). WorthOf d d.horizon u (best_at d d.horizon u) (least_at d d.horizon u) b.0) (sym one) b.2))
        ∙ sym b.1

    same_lost : Lost d t → averages_in (says_of c k) ≡ averages_in (says_of e k)
    same_lost lost = (x.lost k low).1 lost ∙ sym ((y.lost k also).1 (subst (Lost d) one lost))

    same_said : averages_in (says_of c k) ≡ averages_in (says_of e k)
    same_said =
        let r : Reached d t = x.numbered.each k (omega (arith, x.count_is)) in
        by_test (is_in (dropped_of d) (number_of d t))
        (λ b. same_kept ((in_iff d fits t r).0 b)) (λ b. same_lost ((out_iff d fits t r).0 b))

  same_entry : (k : ℕ) → k < limit → get_or c.entries k lost_entry ≡ get_or e.entries k lost_entry
  same_entry k h =
      same_prospect (says_of c k) (says_of e k)
      (elim (dec_lt k c.count) [
        | yes l ↦ same_said k l
        | no l ↦ x.past k (omega arith) h ∙ sym (y.past k (omega (arith, same_count)) h)
      ])

  -- two cards of so many entries that foretell the same are one
  pub only_card : length c.entries ≡ limit → length e.entries ≡ limit → c ≡ e
  only_card long wide =
      ap₂ {C = Card} (λ (n : ℕ) (l : List Prospect). record { count = n; entries = l }) same_count
      (ext_get_or lost_entry c.entries e.entries (long ∙ sym wide) (λ k l. same_entry k (omega arith)))

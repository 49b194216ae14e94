-- The card that the code fills in is the sheet's.
-- Assumes nothing.
use mathlib.Core.Path.{◌≡◌, sym, ap, ap₂, ◌∙◌}
use mathlib.Core.Bool.{true}
use mathlib.Core.List.{List}
use Prim.Native.Nat.{ℕ, ◌*◌, ◌/◌, ◌%◌, ◌^◌, ◌≤◌, ◌<◌}
use native.Mathlib.Nat.{one-le-pow}
use native.Mathlib.Omega.{arith}
use lib.Dec.{eqb}
use lib.ListN.{length, get_or}
use Rattle.records.specs.Meaning.Limits.{max_states, max_letters}
use Rattle.records.specs.Model.Bounded.{top}
use Rattle.records.specs.Model.Lists.{put}
use Rattle.records.specs.Laws.Lists.{length-put, get_d_put-front, get_d_tab}
use Rattle.records.specs.Laws.Tests.{by_test}
use Rattle.game.specs.Model.Extreme.{Pick, bottom}
use Rattle.game.specs.Laws.Extreme.{Picks, largest, smallest}
use Rattle.sheet.specs.Meaning.Decoded.{Decoded}
use Rattle.sheet.specs.Model.Where.{Fits, decoded}
use Rattle.sheet.specs.declared.layout.Sheet.{Sheet}
use Rattle.product.specs.Meaning.Step.{inputs_of, soft_reward, weight_of}
use Rattle.product.specs.Model.Stages.{match_reward}
use Rattle.product.specs.Model.States.{tuple_at}
use Rattle.product.specs.Model.ProductNumbering.{state_count, state_of, cells_length}
use Rattle.product.specs.Laws.Counts.{layout_inputs}
use Rattle.rounds.specs.Model.TableRounds.{is_in}
use Rattle.solve.specs.Model.Steps.{dropped_of}
use Rattle.values.specs.Model.Values.{Game, SizedGame}
use Rattle.values.specs.Model.Sizes.{game_of}
use Rattle.outlook.specs.Model.Outlook.{table_value}
use Rattle.outlook.specs.Laws.Outlook.{best_bound, least_bound}
use Rattle.plan.specs.Model.Playing.{best_at, KeptNumber}
use Rattle.plan.specs.Model.Planned.{Playable}
use Rattle.plan.specs.Laws.Planned.{own_horizon, horizon_in_bounds, counts_low, plan_words, plan_stored, plan_sized}
use Rattle.plan.specs.Laws.Solved.{few}
use Rattle.card.specs.Model.Card.{Worked, card_entry_at, card_of}
use Rattle.card.specs.Laws.Card.{entry_lost, card_ext}
use Rattle.forecast.specs.Model.Forecast.{sum_at, least_at, bests_of, leasts_of, forecast_card}
use Rattle.forecast.specs.Laws.Sums.{stored-sum, best_is}

module _
    {s : List ℕ} {sheet : Sheet} (fits : Fits s sheet) {n : ℕ} {tuples cells dropped : List ℕ}
    (p : Playable (decoded s sheet) n tuples cells dropped)
    (ins outs : ℕ) (is-inputs : ins ≡ 2 ^ sheet.inputs) (is-outputs : outs ≡ 2 ^ sheet.outputs)
    (gains₀ bonuses₀ : List ℕ) {gains bonuses : List ℕ}
    (earned : gains ≡ put gains₀ n (λ k. soft_reward (weight_of (decoded s sheet)) (decoded s sheet) (tuple_at tuples k)))
    (matched : bonuses ≡ put bonuses₀ (ins * outs) (λ l. match_reward (decoded s sheet) (l % ins) (l / ins)))
    (gains-room : max_states ≤ length gains₀) (bonuses_room : max_letters ≤ length bonuses₀)
    (wide-cells : cells_length ≤ length cells) (wide-dropped : max_states ≤ length dropped)
    (bests₀ leasts₀ : List ℕ) {bests leasts : List ℕ} {words : ℕ}
    (best_row : bests ≡ put bests₀ n (table_value top (game_of cells dropped gains bonuses ins outs) sheet.horizon))
    (least-row : leasts ≡ put leasts₀ n (table_value bottom (game_of cells dropped gains bonuses ins outs) sheet.horizon))
    (counted : words ≡ ins ^ sheet.horizon)
    (bests-room : max_states ≤ length bests₀) (leasts-room : max_states ≤ length leasts₀)
  where
    abbrev d : Decoded
    d = decoded s sheet

    abbrev game : Game
    game = game_of cells dropped gains bonuses ins outs

    sized : SizedGame game n
    sized =
        plan_sized fits p ins outs is-inputs is-outputs gains₀ bonuses₀ earned matched gains-room bonuses_room wide-cells wide-dropped

    most : n ≤ max_states
    most = p.solution.numbering.most

    -- the row of either figure, at a state
    row_at_lem : (pick : Pick) (memory : List ℕ) {row : List ℕ} → row ≡ put memory n (table_value pick game sheet.horizon)
        → max_states ≤ length memory → (k : ℕ) → k < n → get_or row k 0 ≡ table_value pick game sheet.horizon k
    row_at_lem pick memory e room k h = rw e (get_d_put-front memory n _ k 0 h (omega (arith, most)))

    -- the sums can be averaged
    pub card_worked : Worked dropped bests leasts words n
    card_worked =
        let far = plan_words fits p ins outs is-inputs is-outputs sheet.horizon (horizon_in_bounds fits) in
        let some = (counts_low fits p ins outs is-inputs is-outputs).0 in
        record {
          few = most;
          rounds_held = omega (arith, most);
          bests_held = rw (best_row, length-put) (omega (arith, most));
          leasts_held = rw (least-row, length-put) (omega (arith, most));
          summed = λ k h. record {
            best_most = rw (row_at_lem top bests₀ best_row bests-room k h) (omega (arith, best_bound sized sheet.horizon far.0 far.1 k h));
            least_most =
                rw (row_at_lem bottom leasts₀ least-row leasts-room k h) (omega (arith, least_bound sized sheet.horizon far.0 far.1 k h));
            words_least = rw counted (one-le-pow sheet.horizon ins some);
            words_most = rw counted (omega (arith, far.1));
          };
        }

    -- a kept state's sum is its tuple's
    kept_sum : {R : ℕ → ℕ → Type 0} {pick : Pick} → Picks R pick → (memory : List ℕ) {row : List ℕ}
        → row ≡ put memory n (table_value pick game sheet.horizon) → max_states ≤ length memory
        → (k : ℕ) → k < n → eqb (get_or (dropped_of d) k 0) 0 ≡ true → get_or row k 0 ≡ sum_at pick d d.horizon (state_of d k)
    unfolding table_value is_in
    kept_sum {pick = pick} x memory e room k h kept =
        let here : eqb (get_or dropped k 0) 0 ≡ true = rw (p.solution.rounds k h) kept in
        let number : KeptNumber d k = record { low = omega (arith, p.solution.numbering.counted); kept = kept } in
        row_at_lem pick memory e room k h
        ∙ rw here
        (stored-sum d (few p.solution) fits.ok n game
        (plan_stored fits p ins outs is-inputs is-outputs gains₀ bonuses₀ earned matched gains-room bonuses_room) x sheet.horizon k number)
        ∙ ap (λ (h : ℕ). sum_at pick d h (state_of d k)) (own_horizon s sheet)

    -- so the card is the sheet's
    pub card_is : card_of dropped bests leasts words n ≡ forecast_card d
    unfolding forecast_card card_entry_at bests_of leasts_of
    card_is =
        card_ext dropped bests leasts words n (dropped_of d) (bests_of d) (leasts_of d) (inputs_of d ^ d.horizon) (state_count d)
        p.solution.numbering.counted same
      where
        words_are : words ≡ inputs_of d ^ d.horizon
        words_are = counted ∙ ap₂ (λ (i h : ℕ). i ^ h) (is-inputs ∙ layout_inputs fits) (own_horizon s sheet)

        same : (k : ℕ) → k < n → card_entry_at dropped bests leasts words k
            ≡ card_entry_at (dropped_of d) (bests_of d) (leasts_of d) (inputs_of d ^ d.horizon) k
        same k h =
            let low : k < state_count d = omega (arith, p.solution.numbering.counted) in
            rw (p.solution.rounds k h)
            (by_test (eqb (get_or (dropped_of d) k 0) 0)
            (λ kept.
            rw (
              words_are,
              kept_sum largest bests₀ best_row bests-room k h kept,
              kept_sum smallest leasts₀ least-row leasts-room k h kept,
              best_is,
              get_d_tab (state_count d) (λ j. best_at d d.horizon (state_of d j)) k 0 low,
              get_d_tab (state_count d) (λ j. least_at d d.horizon (state_of d j)) k 0 low,
            ))
            (λ lost. entry_lost _ _ _ _ lost ∙ sym (entry_lost _ _ _ _ lost)))

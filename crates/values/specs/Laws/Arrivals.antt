-- Laws of prepared values and ranks: scores, values and choices by them are those by gains, values and the output order.
-- Assumes nothing.
use Rattle.std.specs.Prelude.{◌≡◌, Bool, true, false, Some, None, List, length}
use Rattle.std.proofs.Math.Path.{refl, sym, ap}
use Rattle.std.proofs.Common.{◌∙◌, mod-lt, div-lt_iff_lt-mul, arith}
use Rattle.std.proofs.Math.Bool.{cond}
use Rattle.std.proofs.lemmas.Option.{cond_some, none-some}
use Rattle.std.proofs.Math.Option as Math
use Rattle.std.proofs.Math.Option.{none, some}
use Prim.Native.Nat.{ℕ, zero, suc, ◌+◌, ◌-◌, ◌*◌, ◌^◌, ◌≤◌, ◌<◌}
use Rattle.std.proofs.Math.Nat.{add-mul, mul-le-mul}
use Rattle.std.proofs.Math.ListN.{get_or}
use Rattle.records.specs.Meaning.Limits.{max_outs, max_horizon}
use Rattle.records.specs.Meaning.Lists.{tab}
use Rattle.records.specs.Model.Lists.{put}
use Rattle.records.specs.Laws.Bounded.{sum_cong, top_cong}
use Rattle.records.specs.Laws.Lists.{tab_ext, get_d_tab, length-put, get_d_put-front}
use Rattle.rounds.specs.Model.TableRounds.{is_in}
use Rattle.game.specs.Model.Choice.{before, against, leader, choose}
use Rattle.game.specs.Laws.Choice.{choose_cong}
use Rattle.values.specs.Model.Rank.{rank, rank_by}
use Rattle.values.specs.Model.Values.{Game, SizedGame, may_give, cell_next, earns, score_of, worth, value_row, choice_of, choices}
use Rattle.values.specs.Model.Sizes.{Valued, Ready}
use Rattle.values.specs.Model.Arrivals.{arrival, Prepared, arrival_game, offer_of, ranked_choice, ranked_choices}
use Rattle.values.specs.Model.Leaders.{literals_of}
use Rattle.values.specs.Laws.Ranks.{rank-front}
use Rattle.values.specs.Laws.Sizes.{next_low}
use Rattle.values.specs.Laws.Growth.{row_bound}
use Rattle.values.specs.Laws.Choices.{leader_low}

-- ---- ranks

-- the rank by a sheet's literals, which are the first so many of the array
pub rank-literals : (literals : List ℕ) (count o : ℕ) → rank (literals_of literals count) o ≡ rank_by literals count o
unfolding literals_of
rank-literals literals count o = rank-front literals count o

module _ (p : ℕ → Bool) (score f g : ℕ → ℕ) where
  leader_ranks : (n : ℕ) → ((o : ℕ) → o < n → f o ≡ g o) → leader n p score f ≡ leader n p score g
  unfolding leader against before
  leader_ranks zero e = refl
  leader_ranks (suc n) e =
      rw (← leader_ranks n (λ o h. e o (omega arith)))
      (ap (λ (m : ℕ). cond (p n) (some m) (leader n p score f)) (go (leader n p score f) (leader_low p score f n)))
    where
      go : (m : Math.Option ℕ) → Math.get_or m 0 ≤ n - 1 → against score f n m ≡ against score g n m
      go none h = refl
      go (some b) h = rw (e n (omega arith), e b (omega arith))

  -- only the ranks below n count
  pub choose_ranks : (n : ℕ) → ((o : ℕ) → o < n → f o ≡ g o) → choose n p score f ≡ choose n p score g
  unfolding choose
  choose_ranks n e = rw (leader_ranks n e)

-- the ranked choice is an output
pub ranked_low : (g : Game) (ranks arrivals : List ℕ) (factor k i : ℕ) → 1 ≤ g.outs → ranked_choice g ranks arrivals factor k i < g.outs
unfolding ranked_choice choose
ranked_low g ranks arrivals factor k i h =
    omega (arith, leader_low (may_give g k i) (score_of g arrivals factor k i) (λ o. get_or ranks o 0) g.outs)

-- ---- offers

offered_if : (may : Bool) (x y : ℕ) → Some y ≡ cond may (Some x) None → (may ≡ true) × (y ≡ x)
offered_if may x y e = let h = cond_some may x y (sym e) in (h.0, sym h.1)

refused_if : (may : Bool) (x : ℕ) → None ≡ cond may (Some x) None → may ≡ false
refused_if true x e = absurd (none-some x e)
refused_if false x e = refl

module _ (g : Game) (arrivals : List ℕ) (factor k i o : ℕ) where
  -- an offered score is that of an output that may be given
  pub offered : {score : ℕ} → Some score ≡ offer_of g arrivals factor k i o
      → (may_give g k i o ≡ true) × (score ≡ score_of g arrivals factor k i o)
  unfolding offer_of
  offered e = offered_if _ _ _ e

  -- and one that may not be given offers none
  pub refused : None ≡ offer_of g arrivals factor k i o → may_give g k i o ≡ false
  unfolding offer_of
  refused e = refused_if _ _ e

-- ---- arrivals

-- as `prepare` leaves them
pub prepared : {n : ℕ} {gains values : List ℕ} {factor : ℕ} {arrivals : List ℕ} (before : List ℕ)
    → arrivals ≡ put before n (arrival gains values factor) → n ≤ length before → Prepared n gains values factor arrivals
prepared {n} before e room =
    record { room = rw (e, length-put) room; at = λ k h. rw e (get_d_put-front before n _ k 0 h (omega arith)) }

-- the table whose states gain nothing
abbrev pub bare : Game → Game
bare g = arrival_game g.cells g.dropped g.bonuses g.ins g.outs

module _ {g : Game} {n : ℕ} (s : SizedGame g n) where
  pub bare_sized : SizedGame (bare g) n
  bare_sized =
      record {
        inputs_least = s.inputs_least;
        inputs_most = s.inputs_most;
        outputs_least = s.outputs_least;
        outputs_most = s.outputs_most;
        states = s.states;
        rows = s.rows;
        inside = s.inside;
        dropped = s.dropped;
        gain = λ k h. omega arith;
        bonuses = s.bonuses;
        bonus = s.bonus;
      }

  pub bare_ready : {arrivals : List ℕ} {factor k : ℕ} → Valued n arrivals factor → k < n → Ready (bare g) arrivals factor k
  bare_ready v h = record { states = n; sized = bare_sized; valued = v; state = h }

  module _ {values arrivals : List ℕ} {factor : ℕ} (a : Prepared n g.gains values factor arrivals) where
    pub arrival-score : {k i o : ℕ} → k < n → i < g.ins → o < g.outs → may_give g k i o ≡ true
        → score_of (bare g) arrivals factor k i o ≡ score_of g values factor k i o
    unfolding score_of earns cell_next arrival
    arrival-score {k} {i} {o} hk hi ho may =
        let to : ℕ = cell_next g k i o in
        rw (a.at to (next_low s hk hi ho may))
        (omega (arith, add-mul (get_or g.gains to 0) (get_or g.bonuses (i + g.ins * o) 0) factor))

    -- values one step earlier are the same
    pub arrival-worth : (k : ℕ) → k < n → worth (bare g) arrivals factor k ≡ worth g values factor k
    unfolding worth may_give
    arrival-worth k hk =
        ap (λ (x : ℕ). cond (is_in g.dropped k) x 0)
        (sum_cong g.ins _ _ (λ i hi. top_cong g.outs _ _ _ _ (λ o ho. refl) (λ o ho may. arrival-score hk hi ho may)))

    -- they fit where values are those for p steps
    pub arrivals_valued : (memory : List ℕ) (p : ℕ) → n ≤ length memory → values ≡ value_row g n memory p → factor ≡ g.ins ^ p
        → p ≤ max_horizon → g.ins ^ p ≤ 2 ^ max_horizon → Valued n arrivals factor
    unfolding arrival
    arrivals_valued memory p long row words steps few =
        record {
          room = a.room;
          most = λ k h.
              let value : get_or values k 0 ≤ max_horizon * 2295 * 2 ^ max_horizon = rw row (row_bound g n memory long s p steps few k h) in
              let gain : get_or g.gains k 0 * factor ≤ 1530 * 2 ^ max_horizon =
              mul-le-mul {n₂ = 1530} {m₂ = 2 ^ max_horizon} (s.gain k h) (omega arith) in
              rw (a.at k h) (omega arith);
          factor_most = omega arith;
        }

    -- choices by the prepared ranks of the sheet's literals are the same
    module _ (literals : List ℕ) (count : ℕ) {ranks : List ℕ} (ranked : ranks ≡ tab max_outs (rank_by literals count)) where
      pub ranked_choice_lem : (k i : ℕ) → k < n → i < g.ins
          → ranked_choice (bare g) ranks arrivals factor k i ≡ choice_of g (literals_of literals count) values factor k i
      unfolding ranked_choice choice_of may_give
      ranked_choice_lem k i hk hi =
          choose_ranks (may_give g k i) (score_of (bare g) arrivals factor k i) _ _ g.outs (λ o h.
          rw ranked (get_d_tab max_outs (rank_by literals count) o 0 (omega (arith, s.outputs_most)))
          ∙ sym (rank-literals literals count o))
          ∙ choose_cong (may_give g k i) (may_give g k i) _ _ (rank (literals_of literals count)) g.outs (λ o h. refl)
          (λ o ho may. arrival-score hk hi ho may)

      -- as one list
      pub ranked_choices_lem : ranked_choices (bare g) n ranks arrivals factor ≡ choices g n (literals_of literals count) values factor
      unfolding ranked_choices choices
      ranked_choices_lem =
          tab_ext (n * g.ins) _ _ (λ at h. ranked_choice_lem _ _ ((div-lt_iff_lt-mul s.inputs_least).1 h) (mod-lt _ s.inputs_least))

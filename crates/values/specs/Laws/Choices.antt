-- Laws of the choice: it may be given wherever some output may, it has the largest score and the highest rank of those,
-- and the states that choices reach from a kept start are kept.
-- Assumes nothing.
use Rattle.std.specs.Prelude.{◌≡◌, Bool, List, get_or}
use Rattle.std.proofs.Common.{◌∙◌}
use Rattle.std.proofs.Math.Bool.{true, false, cond}
use Rattle.std.proofs.Math.Option
use Rattle.std.proofs.Math.Option.{Option, none, some}
use Prim.Native.Nat.{ℕ, zero, suc, ◌+◌, ◌-◌, ◌*◌, ◌/◌, ◌%◌, ◌≤◌, ◌<◌}
use native.Mathlib.Omega.{arith}
use Rattle.std.proofs.Math.Arith.{digits_lt, digits_div, digits_mod}
use Rattle.records.specs.Laws.Lists.{length-tab, get_d_tab}
use Rattle.rounds.specs.Model.TableRounds.{is_in}
use Rattle.game.specs.Model.Choice.{Leads, before, against, leader, choose}
use Rattle.game.specs.Laws.Choice.{choose_leads}
use Rattle.values.specs.Model.Rank.{rank}
use Rattle.values.specs.Model.Values.{Game, SizedGame, may_give, score_of, choice_of, choices}
use Rattle.values.specs.Laws.Sizes.{steps_of, next_low, next_kept}
use Rattle.values.specs.Model.GuardStates.{chosen, follows}
use Rattle.values.specs.Model.GuardNumbering.{Following}
use Rattle.values.specs.Laws.GuardNumbering.{kept_closed}

module _ (p : ℕ → Bool) (score rank : ℕ → ℕ) where
  -- the leader of n numbers is below n
  pub leader_low : (n : ℕ) → Option.get_or (leader n p score rank) 0 ≤ n - 1
  unfolding leader against
  leader_low zero = omega arith
  leader_low (suc n) = go (p n) (leader n p score rank) (leader_low n)
    where
      ahead : (b : ℕ) (x : Bool) → b ≤ n → cond x n b ≤ n
      ahead b true h = omega arith
      ahead b false h = h

      go : (x : Bool) (m : Option ℕ) → Option.get_or m 0 ≤ n - 1
          → Option.get_or (cond x (some (against score rank n m)) m) 0 ≤ suc n - 1
      go true none h = omega arith
      go true (some b) h = omega (arith, ahead b (before score rank n b) (omega arith))
      go false m h = omega arith

module _ (g : Game) (literals values : List ℕ) (factor : ℕ) where
  pub choice_low : (k i : ℕ) → 1 ≤ g.outs → choice_of g literals values factor k i < g.outs
  unfolding choice_of choose
  choice_low k i h = omega (arith, leader_low (may_give g k i) (score_of g values factor k i) (rank literals) g.outs)

  -- where an output may be given, the choice may be; no output's score is larger, and of those with its score none has a larger rank
  pub choice_leads : (k i o : ℕ) → o < g.outs → may_give g k i o ≡ true
      → Leads g.outs (may_give g k i) (score_of g values factor k i) (rank literals) (choice_of g literals values factor k i)
  unfolding choice_of
  choice_leads k i o h may = choose_leads (may_give g k i) (score_of g values factor k i) (rank literals) g.outs o h may

  -- ---- the choices of n states

  module _ (n : ℕ) where
    pub choices-at : (at : ℕ) → at < n * g.ins
        → get_or (choices g n literals values factor) at 0
        ≡ choice_of g literals values factor (at / g.ins) (at % g.ins)
    unfolding choices
    choices-at at h = get_d_tab (n * g.ins) _ at 0 h

    pub chosen_is : (k i : ℕ) → k < n → i < g.ins
        → chosen g (choices g n literals values factor) k i ≡ choice_of g literals values factor k i
    unfolding chosen
    chosen_is k i hk hi =
        choices-at (k * g.ins + i) (digits_lt hk hi) ∙ rw (digits_div k hi, digits_mod k hi)

    -- the steps that chosen outputs make stay among the kept states, if each input of a kept state has an output that may be given
    module _ (sized : SizedGame g n)
        (live : (k i : ℕ) → k < n → is_in g.dropped k ≡ true → i < g.ins → (o : ℕ) × (o < g.outs) × (may_give g k i o ≡ true))
      where
        pub chosen_leads : (k i : ℕ) → k < n → is_in g.dropped k ≡ true → i < g.ins
            → Leads g.outs (may_give g k i) (score_of g values factor k i) (rank literals)
            (chosen g (choices g n literals values factor) k i)
        chosen_leads k i hk kept hi =
            let x = live k i hk kept hi in rw (chosen_is k i hk hi) (choice_leads k i x.0 x.1 x.2)

        pub choices_stay : (k i : ℕ) → k < n → is_in g.dropped k ≡ true → i < g.ins
            → (follows g (choices g n literals values factor) k i < n)
            × (is_in g.dropped (follows g (choices g n literals values factor) k i) ≡ true)
        unfolding follows
        choices_stay k i hk kept hi =
            let l = chosen_leads k i hk kept hi in
            (next_low sized hk hi l.low l.pass, next_kept sized k i _ l.pass)

        -- so a guard made of them needs no other state
        pub choices_following : 0 < n → is_in g.dropped 0 ≡ true → Following g (choices g n literals values factor) n
        unfolding choices
        choices_following states start =
            record {
              states = sized.states;
              steps = steps_of sized;
              chosen_room = rw length-tab (omega arith);
              output = λ at h. rw (choices-at at h) (choice_low _ _ sized.outputs_least);
              closed = λ k r. (kept_closed g (choices g n literals values factor) n states start choices_stay k r).0;
            }

-- The loop over outputs that finds the choice: the leader of the outputs before o.
-- Assumes nothing.
use mathlib.Core.Path.{◌≡◌, ◌∙◌}
use mathlib.Core.List.{List}
use mathlib.Core.Option as Math
use Rattle.std.specs.Prelude.{Option, Some, None}
use Prim.Native.Nat.{ℕ, ◌+◌, ◌≤◌}
use native.Mathlib.Omega.{arith}
use lib.ListN.{get_or}
use Rattle.game.specs.Model.Choice.{leader, choose}
use Rattle.game.specs.Laws.Choice.{leader_none, leader_more}
use Rattle.values.specs.Model.Values.{Game, may_give, score_of}
use Rattle.values.specs.Model.Arrivals.{offer_of, ranked_choice}
use Rattle.values.specs.Model.Leaders.{challenged, leader_of}
use Rattle.values.specs.Laws.Arrivals.{offered, refused}
use Rattle.values.proofs.Leaders.{led, unled, leader-against}
use Rattle.values.specs.Laws.Choices.{leader_low}
use Rattle.values.specs.declared.choice.Leader.{Leader}

module _ (g : Game) (ranks arrivals : List ℕ) (factor k i : ℕ) where
  abbrev rank_of : ℕ → ℕ
  rank_of o = get_or ranks o 0

  -- the leader of the outputs before o
  abbrev found : ℕ → Math.Option ℕ
  found o = leader o (may_give g k i) (score_of g arrivals factor k i) rank_of

  abbrev pub leading : ℕ → Option Leader
  leading o = leader_of (score_of g arrivals factor k i) rank_of (found o)

  pub lead_begin : None ≡ leading 0
  unfolding leader_of
  lead_begin = rw (leader_none (may_give g k i) (score_of g arrivals factor k i) rank_of)

  module _ (o : ℕ) where
    pub lead_more : {score : ℕ} {lead : Option Leader} {lead' : Leader} → Some score ≡ offer_of g arrivals factor k i o
        → lead ≡ leading o → lead' ≡ challenged lead o score (rank_of o) → Some lead' ≡ leading (o + 1)
    lead_more e l m =
        let h = offered g arrivals factor k i o e in
        rw (m, l, h.1, leader_more, h.0) (leader-against (score_of g arrivals factor k i) rank_of (found o) o)

    pub lead_same : None ≡ offer_of g arrivals factor k i o → {lead : Option Leader} → lead ≡ leading o → lead ≡ leading (o + 1)
    lead_same e l = let shut = refused g arrivals factor k i o e in rw (l, leader_more, shut)

    -- the leader's output is the choice, and fits a byte
    pub lead_end : {lead : Leader} → o ≡ g.outs → Some lead ≡ leading o
        → (lead.output ≡ ranked_choice g ranks arrivals factor k i) × (lead.output ≤ o)
    unfolding ranked_choice choose
    lead_end q e =
        let h = led (score_of g arrivals factor k i) rank_of (found o) e in (
          h ∙ rw q,
          omega (arith, h, leader_low (may_give g k i) (score_of g arrivals factor k i) rank_of o),
        )

    -- with no leader it is 0
    pub lead_none : o ≡ g.outs → None ≡ leading o → 0 ≡ ranked_choice g ranks arrivals factor k i
    unfolding ranked_choice choose
    lead_none q e = unled (score_of g arrivals factor k i) rank_of (found o) e ∙ rw q

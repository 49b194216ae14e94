-- The sums that the rounds leave are those of the sheet's game, they are what ways of answering earn, and they are at most 2^53.
-- Assumes nothing.
use Rattle.std.specs.Prelude.{◌≡◌, ◌↔◌, true, List}
use Rattle.std.proofs.Math.Path.{sym, fun_ext, subst₂}
use Rattle.std.proofs.Common.{ap, ◌∙◌, subst, mul-le-mul, arith}
use Prim.Native.Nat.{ℕ, suc, ◌+◌, ◌*◌, ◌^◌, ◌≤◌, ◌<◌}
use Rattle.records.specs.Meaning.Limits.{max_states, max_horizon}
use Rattle.records.specs.Model.Bounded.{top}
use Rattle.game.specs.Meaning.Ways.{AtMost, Extremal}
use Rattle.game.specs.Model.Extreme.{Pick, value_by}
use Rattle.game.specs.Laws.Extreme.{Picks, largest, value_by-top, value_by_named, least_most}
use Rattle.game.specs.Laws.Naming.{Names}
use Rattle.game.specs.Laws.Reachable.{reachable_closed}
use Rattle.game.specs.Laws.Rounds as rounds
use Rattle.game.specs.Laws.Value.{value_most}
use Rattle.game.specs.Laws.Ways as ways
use Rattle.sheet.specs.Meaning.Decoded.{Decoded, SheetOk}
use Rattle.product.specs.Meaning.Step.{inputs_of, outputs_of, advance, unbroken, reward, first_tuple}
use Rattle.product.specs.Meaning.States.{Reached}
use Rattle.product.specs.Laws.Rewards.{reward_most}
use Rattle.product.specs.Model.ProductNumbering.{state_count, state_of}
use Rattle.solve.specs.Meaning.Allowed.{Allowed}
use Rattle.solve.specs.Laws.Entries.{sheet_steps, settled_quiet}
use Rattle.rounds.specs.Model.TableRounds.{Steps}
use Rattle.values.specs.Model.Values.{Game, may_give, cell_next, earns}
use Rattle.plan.specs.Model.GuardOfSheet.{sheet_game}
use Rattle.plan.specs.Model.Playing.{may_at, best_at, KeptNumber}
use Rattle.plan.specs.Laws.Playing.{may_is, next_inside, next_lands, earns_is}
use Rattle.plan.specs.Laws.Reaching.{Winning}
use Rattle.plan.specs.Laws.SamePlan.{held, HoldsSteps, Stored, may_agree, next_agree, earns_agree}
use Rattle.plan.specs.Laws.Solved.{sheet_horizon, words_most}
use Rattle.forecast.specs.Meaning.Forecast.{EarnedBy, KeptState, SumsBy, BestSums}
use Rattle.forecast.specs.Model.Forecast.{sum_at, least_at}

-- ---- over the table that work memory holds

module _ (d : Decoded) (fits : state_count d ≤ max_states) where
  module _ (cells dropped gains bonuses : List ℕ) (holds : HoldsSteps (sheet_game d) (state_count d) cells dropped gains bonuses) where
    abbrev mine : Game
    mine = held (sheet_game d) cells dropped gains bonuses

    steps : Steps (sheet_game d).cells (state_count d) (sheet_game d).ins (sheet_game d).outs
    unfolding sheet_game
    steps = sheet_steps d fits

    module _ (k i o : ℕ) (q : KeptNumber d k) (hi : i < inputs_of d) (ho : o < outputs_of d) where
      same-may : may_give (sheet_game d) k i o ≡ may_give mine k i o
      unfolding sheet_game
      same-may = may_agree (sheet_game d) (state_count d) steps cells dropped gains bonuses holds k i o q.low hi ho

      given : may_give mine k i o ≡ true → may_give (sheet_game d) k i o ≡ true
      given e = same-may ∙ e

      same_next : cell_next (sheet_game d) k i o ≡ cell_next mine k i o
      unfolding sheet_game
      same_next = next_agree (sheet_game d) (state_count d) steps cells dropped gains bonuses holds k i o q.low hi ho

      same-earns : SheetOk d → may_give mine k i o ≡ true → earns mine k i o ≡ reward d (state_of d k) i o
      unfolding sheet_game
      same-earns ok e =
          sym (earns_agree (sheet_game d) (state_count d) steps cells dropped gains bonuses holds k i o q.low hi ho (given e))
          ∙ earns_is d fits k i o q.low hi ho (given e) ok

    plays : Names ℕ (List ℕ) (inputs_of d) (outputs_of d) (cell_next mine) (advance d) (may_give mine) (may_at d) (KeptNumber d) (state_of d)
    plays =
        record {
          tests = λ k i o q hi ho. sym (same-may k i o q hi ho) ∙ may_is d fits k i o q.low hi ho;
          inside = λ k i o q hi ho e. rw (← same_next k i o q hi ho) (next_inside d fits k i o q.low hi ho (given k i o q hi ho e));
          lands = λ k i o q hi ho e. rw (← same_next k i o q hi ho) (next_lands d fits k i o q.low hi ho (given k i o q hi ho e));
        }

    held-sum : SheetOk d → {R : ℕ → ℕ → Type 0} {pick : Pick} → Picks R pick → (p k : ℕ) → KeptNumber d k
        → value_by pick ℕ (inputs_of d) (outputs_of d) (cell_next mine) (may_give mine) (earns mine) p k ≡ sum_at pick d p (state_of d k)
    held-sum ok x =
        value_by_named x ℕ (List ℕ) (inputs_of d) (outputs_of d) (cell_next mine) (advance d) (may_give mine) (may_at d) (KeptNumber d)
        (state_of d) plays (earns mine) (reward d) (λ k i o q hi ho. same-earns k i o q hi ho ok)

  -- a table with other numbers of inputs and outputs
  abbrev with : Game → ℕ → ℕ → Game
  with g a b = record { cells = g.cells; dropped = g.dropped; gains = g.gains; bonuses = g.bonuses; ins = a; outs = b }

  -- what a kept state is worth over p steps by the stored table is its tuple's sum
  pub stored-sum : SheetOk d → (n : ℕ) (g : Game) → Stored d n g
      → {R : ℕ → ℕ → Type 0} {pick : Pick} → Picks R pick → (p k : ℕ) → KeptNumber d k
      → value_by pick ℕ g.ins g.outs (cell_next g) (may_give g) (earns g) p k ≡ sum_at pick d p (state_of d k)
  unfolding sheet_game
  stored-sum ok n g s {R} {pick} x p k q =
      subst₂ (λ (a b : ℕ).
      value_by pick ℕ a b (cell_next (with g a b)) (may_give (with g a b)) (earns (with g a b)) p k ≡ sum_at pick d p (state_of d k))
      (sym s.ins) (sym s.outs) (held-sum g.cells g.dropped g.gains g.bonuses s.holds ok x p k q)

  -- ---- ways of answering

  module _ {R : ℕ → ℕ → Type 0} {pick : Pick} (x : Picks R pick) where
    closed : (t : List ℕ) (i o : ℕ) → Reached d t → i < inputs_of d → o < outputs_of d → unbroken d t i o ≡ true → Reached d (advance d t i o)
    closed = reachable_closed (List ℕ) (inputs_of d) (outputs_of d) (advance d) (unbroken d) (first_tuple d)

    live : (t : List ℕ) (i : ℕ) → Winning d t → i < inputs_of d → (o : ℕ) × (o < outputs_of d) × (may_at d t i o ≡ true)
    live = rounds.live (List ℕ) (inputs_of d) (outputs_of d) (advance d) (unbroken d) (Reached d) closed (state_count d) (settled_quiet d fits)

    stays : (t : List ℕ) (i o : ℕ) → Winning d t → i < inputs_of d → o < outputs_of d → may_at d t i o ≡ true → Winning d (advance d t i o)
    stays = rounds.stays (List ℕ) (inputs_of d) (outputs_of d) (advance d) (unbroken d) (Reached d) closed (state_count d) (settled_quiet d fits)

    decides : (t : List ℕ) (i o : ℕ) → Winning d t → i < inputs_of d → o < outputs_of d → (may_at d t i o ≡ true) ↔ Allowed d t i o
    decides t i o g =
        rounds.allowed_iff (List ℕ) (inputs_of d) (outputs_of d) (advance d) (unbroken d) (Reached d) closed (state_count d)
        (settled_quiet d fits) t i o g.inside

    -- a kept product state is winning
    winning : (t : List ℕ) → KeptState d t → Winning d t
    winning t k =
        record {
          inside = k.reached;
          kept = (rounds.kept_iff (List ℕ) (inputs_of d) (outputs_of d) (advance d) (unbroken d) (Reached d) closed (state_count d)
              (settled_quiet d fits) t k.reached).1 k.kept;
        }

    -- from it, the sum is what ways of answering earn
    pub sum-earned : (h : ℕ) (t : List ℕ) → KeptState d t → EarnedBy R d h t (sum_at pick d h t)
    sum-earned h t k =
        ways.earned x (List ℕ) (inputs_of d) (outputs_of d) (advance d) (may_at d) (reward d) (Allowed d) (Winning d) live stays decides
        h t (winning t k)

    -- and goes by document 01's recursion
    pub sums_by : SumsBy R d (sum_at pick d)
    sums_by =
        let r = ways.recursion x (List ℕ) (inputs_of d) (outputs_of d) (advance d) (may_at d) (reward d) (Allowed d) (Winning d) live stays
        decides in
        record { none = λ t k. r.none t (winning t k); more = λ p t k. r.more p t (winning t k) }

-- ---- Best

pub best_is : (d : Decoded) (h : ℕ) (t : List ℕ) → sum_at top d h t ≡ best_at d h t
best_is d = value_by-top (List ℕ) (inputs_of d) (outputs_of d) (advance d) (may_at d) (reward d)

pub least_best : (d : Decoded) (h : ℕ) (t : List ℕ) → least_at d h t ≤ best_at d h t
least_best d h t = rw (← best_is d h t) (least_most (List ℕ) (inputs_of d) (outputs_of d) (advance d) (may_at d) (reward d) h t)

pub best_sums_by : (d : Decoded) → state_count d ≤ max_states → BestSums d (best_at d)
best_sums_by d fits =
    let r = sums_by d fits largest in
    record {
      none = λ t k. sym (best_is d 0 t) ∙ r.none t k;
      more = λ p t k.
          let m = r.more p t k in (
            m.0,
            sym (best_is d (suc p) t) ∙ m.1,
            λ i hi.
                subst (λ (f : ℕ → ℕ). Extremal AtMost (λ o. (o < outputs_of d) × Allowed d t i o) f (m.0 i))
                (fun_ext (λ o. ap (λ (v : ℕ). reward d t i o * inputs_of d ^ p + v) (best_is d p (advance d t i o)))) (m.2 i hi),
          );
    }

-- the sums of a sheet in bounds are at most 2 ^ 53
pub best_sum_most : (d : Decoded) → SheetOk d → (t : List ℕ) → best_at d d.horizon t ≤ 2 ^ 53
best_sum_most d ok t =
    let h : ℕ = d.horizon in
    let most = value_most (List ℕ) (inputs_of d) (outputs_of d) (advance d) (may_at d) (reward d) 2295 (λ u i o hi ho. reward_most d ok u i o) h t in
    let words : inputs_of d ^ h ≤ 2 ^ max_horizon = words_most d h (sheet_horizon d ok.horizon) in
    omega (
      arith,
      most,
      mul-le-mul {n₁ = h * 2295} {m₁ = inputs_of d ^ h} {n₂ = max_horizon * 2295} {m₂ = 2 ^ max_horizon}
          (omega (arith, ok.horizon.most)) words,
    )

pub least-sum_most : (d : Decoded) → SheetOk d → (t : List ℕ) → least_at d d.horizon t ≤ 2 ^ 53
least-sum_most d ok t = omega (arith, least_best d d.horizon t, best_sum_most d ok t)

-- The loop over inputs: the sums of the largest and of the smallest scores so far.
-- Assumes nothing.
use mathlib.Core.Path.{◌≡◌, sym}
use mathlib.Core.Bool.{Bool, true, false}
use mathlib.Core.List.{List}
use Rattle.std.specs.Prelude.{Some, None}
use Prim.Native.Nat.{ℕ, ◌+◌, ◌*◌, ◌^◌, ◌≤◌, ◌<◌}
use native.Mathlib.Omega.{arith}
use Rattle.records.specs.Meaning.Bounded.{sum}
use Rattle.records.specs.Model.Bounded.{top}
use Rattle.records.specs.Laws.Bounded.{sum_none, sum_more, sum_most}
use Rattle.game.specs.Model.Extreme.{bottom, Pick}
use Rattle.game.specs.Laws.Extreme.{bottom-top}
use Rattle.rounds.specs.Model.TableRounds.{is_in}
use Rattle.values.specs.Model.Values.{Game, may_give, score_of}
use Rattle.values.specs.Model.Sizes.{Ready}
use Rattle.values.specs.Laws.Growth.{best_most}
use Rattle.outlook.specs.Model.Outlook.{worth_by}
use Rattle.outlook.specs.Model.Spans.{span_of, sums_of}
use Rattle.outlook.specs.Laws.Spans.{spanned, unspanned}
use Rattle.values.specs.Model.Tables.{game_in}
use Rattle.outlook.specs.declared.span.ReadyBoth.{ReadyBoth}
use Rattle.outlook.specs.declared.span.Span.{Span}

-- ---- by either pick

module _ (pick : Pick) (g : Game) (values : List ℕ) (factor k : ℕ) where
  -- what is picked at an input
  abbrev pub picked : ℕ → ℕ
  picked i = pick g.outs (may_give g k i) (score_of g values factor k i)

  -- and at the inputs before i
  abbrev pub summed : ℕ → ℕ
  summed i = sum i (λ j. picked j)

-- a pick that is no larger than the largest
abbrev Under : Pick → Type 0
Under pick = (n : ℕ) (p : ℕ → Bool) (f : ℕ → ℕ) → pick n p f ≤ top n p f

top_under : Under top
top_under n p f = omega arith

bottom_under : Under bottom
bottom_under n p f = bottom-top n p f f (λ o h may. omega arith)

module _ {pick : Pick} (under : Under pick) {g : Game} {values : List ℕ} {factor k : ℕ} (ready : Ready g values factor k) where
  summed_most : (i : ℕ) → i ≤ g.ins → summed pick g values factor k i ≤ 16 * 2 ^ 41
  summed_most i h =
      let v = ready.valued in
      let most : (j : ℕ) → j < i → picked pick g values factor k j ≤ 2 ^ 41 = λ j l.
      omega (
        arith,
        under g.outs (may_give g k j) (score_of g values factor k j),
        best_most ready.sized values (2 ^ 40) factor v.most {i = j} ready.state (omega arith),
        v.factor_most,
      ) in
      omega (arith, sum_most i (2 ^ 41) _ most, ready.sized.inputs_most)

  summed_more : {i s x : ℕ} → i < g.ins → s ≡ summed pick g values factor k i → x ≡ picked pick g values factor k i
      → (s + x ≡ summed pick g values factor k (i + 1)) × (s + x ≤ 16 * 2 ^ 41)
  summed_more {i} {s} {x} h e f =
      let more : s + x ≡ summed pick g values factor k (i + 1) = rw (e, f, sum_more) in
      (more, omega (arith, summed_most (i + 1) (omega arith)))

-- ---- both

-- a game in a round is ready for either sum
module _ (r : ReadyBoth) {k : ℕ} (h : k < r.n) where
  pub ready_high : Ready (game_in r.rounds.game) r.rounds.highs.now r.rounds.factor k
  ready_high = record { states = r.n; sized = r.sized; valued = r.high; state = h }

  pub ready_low : Ready (game_in r.rounds.game) r.rounds.lows.now r.rounds.factor k
  ready_low = record { states = r.n; sized = r.sized; valued = r.low; state = h }

-- the sums over the inputs before i
pub record Summed (g : Game) (bests leasts : List ℕ) (factor k best least i : ℕ) : Type 0 where
  pub within : i ≤ g.ins
  pub high : best ≡ summed top g bests factor k i
  pub low : least ≡ summed bottom g leasts factor k i

pub begin : (g : Game) (bests leasts : List ℕ) (factor k : ℕ) → Summed g bests leasts factor k 0 0 0
begin g bests leasts factor k = record { within = omega arith; high = sym (sum_none _); low = sym (sum_none _) }

module _
    {g : Game} {bests leasts : List ℕ} {factor k best least i : ℕ} (r : Summed g bests leasts factor k best least i) (h : i < g.ins)
  where
    module _
        (highs : Ready g bests factor k) (lows : Ready g leasts factor k) {span : Span} (e : Some span ≡ span_of g bests leasts factor k i)
      where
        higher : (best + span.best ≡ summed top g bests factor k (i + 1)) × (best + span.best ≤ 16 * 2 ^ 41)
        higher = summed_more top_under highs h r.high (spanned g bests leasts factor k i e).0

        lower : (least + span.least ≡ summed bottom g leasts factor k (i + 1)) × (least + span.least ≤ 16 * 2 ^ 41)
        lower = summed_more bottom_under lows h r.low (spanned g bests leasts factor k i e).1

        pub fits : (best + span.best ≤ 16 * 2 ^ 41) × (least + span.least ≤ 16 * 2 ^ 41)
        fits = (higher.1, lower.1)

        pub more : Summed g bests leasts factor k (best + span.best) (least + span.least) (i + 1)
        more = record { within = omega arith; high = higher.0; low = lower.0 }

    -- an input at which no output may be given adds nothing
    pub same : None ≡ span_of g bests leasts factor k i → Summed g bests leasts factor k best least (i + 1)
    same e =
        let none = unspanned g bests leasts factor k i e in
        record {
          within = omega arith;
          high = rw sum_more (omega (arith, r.high, none.0));
          low = rw sum_more (omega (arith, r.low, none.1));
        }

module _ (g : Game) (bests leasts : List ℕ) (factor k : ℕ) where
  pub lost : is_in g.dropped k ≡ false → record { best = 0; least = 0 } ≡ sums_of g bests leasts factor k
  unfolding sums_of worth_by
  lost e = rw e

  pub end : {best least i : ℕ} → is_in g.dropped k ≡ true → g.ins ≤ i → Summed g bests leasts factor k best least i
      → record { best = best; least = least } ≡ sums_of g bests leasts factor k
  unfolding sums_of worth_by
  end {i = i} kept h r = let all : i ≡ g.ins = omega (arith, r.within) in rw (kept, r.high, r.low, all)

-- The loop over steps: after p turns both rows are those of the values over p steps.
-- Assumes nothing.
use mathlib.Core.Path.{◌≡◌, refl, sym, ap, ◌∙◌}
use mathlib.Core.List.{List}
use Prim.Native.Nat.{ℕ, ◌+◌, ◌*◌, ◌^◌, ◌≤◌, ◌<◌}
use native.Mathlib.Nat.{pow-zero, pow-suc}
use native.Mathlib.Numerals.{add-one}
use native.Mathlib.Omega.{arith}
use lib.ListN.{length, get_or}
use Rattle.records.specs.Meaning.Limits.{max_horizon}
use Rattle.records.specs.Model.Bounded.{top}
use Rattle.records.specs.Model.Lists.{put}
use Rattle.records.specs.Laws.Lists.{put-put, put_ext, length-put, get_d_put-front}
use Rattle.game.specs.Model.Extreme.{bottom, Pick}
use Rattle.game.specs.Laws.Extreme.{Picks, largest, smallest}
use Rattle.values.specs.Model.Values.{Game, SizedGame}
use Rattle.values.specs.Model.Sizes.{Valued}
use Rattle.values.specs.Model.Arrivals.{arrival, Prepared, Gained}
use Rattle.values.specs.Laws.Growth.{words_mono}
use Rattle.values.specs.Laws.Arrivals.{bare, bare_sized, prepared}
use Rattle.outlook.specs.Model.Outlook.{worth_by, table_value}
use Rattle.outlook.specs.Laws.Outlook.{table_none, outlook_more, best_bound, least_bound, values_fit, arrivals_fit}

-- what the loop relies on
pub record Fits (g : Game) (n horizon : ℕ) : Type 0 where
  pub sized : SizedGame g n
  pub gains : n ≤ length g.gains
  pub steps : horizon ≤ max_horizon
  pub few : g.ins ^ horizon ≤ 2 ^ max_horizon

-- how far it has come: p steps, of so many words
pub record Stepped (g : Game) (horizon factor p : ℕ) : Type 0 where
  pub within : p ≤ horizon
  pub words : factor ≡ g.ins ^ p

-- ---- one figure

-- its row, and the arrivals that the next is found from; `memory` and `spare` are these as the loop found them
pub record Figure (pick : Pick) (g : Game) (n p : ℕ) (memory spare values arrivals : List ℕ) : Type 0 where
  pub rows : n ≤ length memory
  pub spares : n ≤ length spare
  pub row : values ≡ put memory n (table_value pick g p)
  pub room : length arrivals ≡ length spare

module _ (pick : Pick) (g : Game) (n : ℕ) where
  figure_begin : (entry : List ℕ) {memory : List ℕ} (spare : List ℕ) → memory ≡ put entry n (λ k. 0)
      → n ≤ length entry → n ≤ length spare → Figure pick g n 0 memory spare memory spare
  figure_begin entry spare e rows spares =
      record {
        rows = rw (e, length-put) rows;
        spares = spares;
        row =
            e ∙ sym (put-put entry n (λ k. 0) (λ k. 0)) ∙ ap (λ (m : List ℕ). put m n (λ k. 0)) (sym e)
            ∙ put_ext _ n _ _ (λ k h. sym (table_none pick g k));
        room = refl;
      }

module _ {pick : Pick} {g : Game} {n p : ℕ} {memory spare values arrivals : List ℕ} (r : Figure pick g n p memory spare values arrivals) where
  figure_same : length values ≡ length memory
  figure_same = rw r.row (length-put memory n _)

  -- of what stood in memory before it was cleared
  figure_end : (entry : List ℕ) → memory ≡ put entry n (λ k. 0) → values ≡ put entry n (table_value pick g p)
  figure_end entry e = r.row ∙ rw e (put-put entry n _ _)

-- a pick by which values over every horizon that the sheet's bounds admit fit
abbrev Bounded : Pick → Game → ℕ → Type 0
Bounded pick g n =
    (p : ℕ) → p ≤ max_horizon → g.ins ^ p ≤ 2 ^ max_horizon → (k : ℕ) → k < n → table_value pick g p k ≤ max_horizon * 2295 * 2 ^ max_horizon

module _ {g : Game} {n horizon factor p : ℕ} (fits : Fits g n horizon) (at : Stepped g horizon factor p) where
  few_words : factor ≤ 2 ^ max_horizon
  few_words = rw at.words (words_mono g fits.sized at.within fits.few)

  -- a factor more is one of the numbers of words up to the horizon
  step_more : p < horizon → Stepped g horizon (factor * g.ins) (p + 1)
  step_more h = record { within = omega arith; words = rw (at.words, add-one) (sym (pow-suc g.ins p)) }

  module _
      {R : ℕ → ℕ → Type 0} {pick : Pick} (x : Picks R pick) (bounded : Bounded pick g n) {memory spare values arrivals : List ℕ}
      (r : Figure pick g n p memory spare values arrivals)
    where
      values_most : (k : ℕ) → k < n → get_or values k 0 ≤ max_horizon * 2295 * 2 ^ max_horizon
      values_most k h =
          rw (r.row, get_d_put-front memory n (table_value pick g p) k 0 h (omega (arith, r.rows)))
          (bounded p (omega (arith, at.within, fits.steps)) (words_mono g fits.sized at.within fits.few) k h)

      -- what `prepare` asks
      figure_asks : Gained n g.gains × (Valued n values factor × (n ≤ length arrivals))
      figure_asks = (
        record { room = fits.gains; most = fits.sized.gain },
        (
          values_fit fits.sized few_words values_most (omega (arith, figure_same r, r.rows)),
          omega (arith, r.room, r.spares),
        ),
      )

      -- with arrivals prepared
      module _ {arrivals' : List ℕ} (e : arrivals' ≡ put arrivals n (arrival g.gains values factor)) where
        new : Prepared n g.gains values factor arrivals'
        new = prepared arrivals e figure_asks.1.1

        figure_valued : Valued n arrivals' factor
        figure_valued = arrivals_fit fits.sized few_words values_most new

        figure_more : {values' : List ℕ} → values' ≡ put values n (worth_by pick (bare g) arrivals' factor)
            → Figure pick g n (p + 1) memory spare values' arrivals'
        figure_more f =
            record {
              rows = r.rows;
              spares = r.spares;
              row = outlook_more x fits.sized memory r.rows p r.row at.words new f;
              room = rw (e, length-put) r.room;
            }

-- ---- both

pub record Foreseen
    (g : Game) (n horizon : ℕ) (bests₀ leasts₀ highs₀ lows₀ bests leasts highs lows : List ℕ) (factor p : ℕ) : Type 0
  where
    pub at : Stepped g horizon factor p
    pub best : Figure top g n p bests₀ highs₀ bests highs
    pub least : Figure bottom g n p leasts₀ lows₀ leasts lows

-- `b` and `l` are what stood in the rows before they were cleared
pub begin : (g : Game) (n horizon : ℕ) (b l : List ℕ) {bests leasts : List ℕ} (highs lows : List ℕ)
    → bests ≡ put b n (λ k. 0) → leasts ≡ put l n (λ k. 0) → (n ≤ length b) × (n ≤ length l) → (n ≤ length highs) × (n ≤ length lows)
    → Foreseen g n horizon bests leasts highs lows bests leasts highs lows 1 0
begin g n horizon b l highs lows e f rows spares =
    record {
      at = record { within = omega arith; words = sym (pow-zero g.ins) };
      best = figure_begin top g n b highs e rows.0 spares.0;
      least = figure_begin bottom g n l lows f rows.1 spares.1;
    }

module _
    {g : Game} {n horizon : ℕ} {bests₀ leasts₀ highs₀ lows₀ bests leasts highs lows : List ℕ} {factor p : ℕ}
    (fits : Fits g n horizon) (r : Foreseen g n horizon bests₀ leasts₀ highs₀ lows₀ bests leasts highs lows factor p)
  where
    pub best_asks : Gained n g.gains × (Valued n bests factor × (n ≤ length highs))
    best_asks = figure_asks fits r.at largest (best_bound fits.sized) r.best

    pub least_asks : Gained n g.gains × (Valued n leasts factor × (n ≤ length lows))
    least_asks = figure_asks fits r.at smallest (least_bound fits.sized) r.least

    -- with both arrivals prepared
    module _
        {highs' lows' : List ℕ} (high : highs' ≡ put highs n (arrival g.gains bests factor))
        (low : lows' ≡ put lows n (arrival g.gains leasts factor))
      where
        -- what `sums_round` asks
        pub round_asks : SizedGame (bare g) n
            × (Valued n highs' factor × (Valued n lows' factor × ((n ≤ length bests) × (n ≤ length leasts))))
        round_asks = (
          bare_sized fits.sized,
          (
            figure_valued fits r.at largest (best_bound fits.sized) r.best high,
            (
              figure_valued fits r.at smallest (least_bound fits.sized) r.least low,
              (best_asks.1.0.room, least_asks.1.0.room),
            ),
          ),
        )

        pub more : {bests' leasts' : List ℕ} → p < horizon → bests' ≡ put bests n (worth_by top (bare g) highs' factor)
            → leasts' ≡ put leasts n (worth_by bottom (bare g) lows' factor)
            → Foreseen g n horizon bests₀ leasts₀ highs₀ lows₀ bests' leasts' highs' lows' (factor * g.ins) (p + 1)
        more h b l =
            record {
              at = step_more fits r.at h;
              best = figure_more fits r.at largest (best_bound fits.sized) r.best high b;
              least = figure_more fits r.at smallest (least_bound fits.sized) r.least low l;
            }

    pub end : (b l : List ℕ) → bests₀ ≡ put b n (λ k. 0) → leasts₀ ≡ put l n (λ k. 0) → horizon ≤ p
        → (bests ≡ put b n (table_value top g horizon))
        × ((leasts ≡ put l n (table_value bottom g horizon)) × (factor ≡ g.ins ^ horizon))
    end b l e f h =
        let last : p ≡ horizon = omega (arith, r.at.within) in
        rw (← last) (figure_end r.best b e, (figure_end r.least l f, r.at.words))

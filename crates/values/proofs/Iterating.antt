-- The loop of value iteration: after p turns the row of values is that for p steps.
-- Assumes nothing.
use mathlib.Core.Path.{◌≡◌, refl, sym, ap, ◌∙◌}
use mathlib.Core.List.{List}
use Prim.Native.Nat.{ℕ, zero, suc, ◌+◌, ◌*◌, ◌^◌, ◌≤◌, ◌<◌}
use native.Mathlib.Nat.{pow-zero, pow-suc}
use native.Mathlib.Numerals.{add-one}
use native.Mathlib.Omega.{arith}
use lib.ListN.{length}
use Rattle.records.specs.Model.Lists.{put}
use Rattle.records.specs.Laws.Lists.{put-put, put_ext, length-put}
use Rattle.values.specs.Model.Values.{Game, SizedGame, worth, value_row}
use Rattle.values.specs.Model.Sizes.{Valued}
use Rattle.values.specs.Model.Arrivals.{arrival, Prepared, Gained}
use Rattle.values.specs.Laws.Growth.{row_none, row_more, row_over, row_valued, words_mono}
use Rattle.values.specs.Laws.Arrivals.{bare, prepared, arrival-worth, arrivals_valued}

-- `memory` and `spare` are values and arrivals as the loop found them
pub record Iterated
    (g : Game) (n horizon : ℕ) (memory spare values arrivals : List ℕ) (factor p : ℕ) : Type 0
  where
    pub within : p ≤ horizon
    pub row : values ≡ value_row g n memory p
    pub words : factor ≡ g.ins ^ p
    pub room : length arrivals ≡ length spare
    -- only arrivals of the n states have been written
    pub over : (f : ℕ → ℕ) → put arrivals n f ≡ put spare n f

-- what the loop relies on
pub record Fits (g : Game) (n horizon : ℕ) (memory spare : List ℕ) : Type 0 where
  pub sized : SizedGame g n
  pub gains : n ≤ length g.gains
  pub rows : n ≤ length memory
  pub spares : n ≤ length spare
  pub steps : horizon ≤ 24
  pub few : g.ins ^ horizon ≤ 2 ^ 24

-- the row for no steps, whatever stood there
cleared-rows : (g : Game) (n : ℕ) (memory : List ℕ) (p : ℕ) → value_row g n (put memory n (λ k. 0)) p ≡ value_row g n memory p
unfolding value_row
cleared-rows g n memory zero = put-put memory n _ _
cleared-rows g n memory (suc p) = rw (cleared-rows g n memory p) (put-put memory n _ _)

pub begin : (g : Game) (n horizon : ℕ) (entry : List ℕ) {memory : List ℕ} (spare : List ℕ) → memory ≡ put entry n (λ k. 0)
    → Iterated g n horizon memory spare memory spare 1 0
begin g n horizon entry spare e =
    record {
      within = omega arith;
      row = e ∙ sym (put-put entry n (λ k. 0) (λ k. 0)) ∙ ap (λ (m : List ℕ). put m n (λ k. 0)) (sym e) ∙ sym (row_none g n _);
      words = sym (pow-zero g.ins);
      room = refl;
      over = λ f. refl;
    }

module _
    {g : Game} {n horizon : ℕ} {memory spare values arrivals : List ℕ} {factor p : ℕ}
    (fits : Fits g n horizon memory spare) (r : Iterated g n horizon memory spare values arrivals factor p)
  where
    steps_few : (p ≤ 24) × (g.ins ^ p ≤ 2 ^ 24)
    steps_few = (omega (arith, r.within, fits.steps), words_mono g fits.sized r.within fits.few)

    -- what `prepare` asks
    pub preparable : Gained n g.gains × (Valued n values factor × (n ≤ length arrivals))
    preparable = (
      record { room = fits.gains; most = fits.sized.gain },
      (
        rw (r.row, r.words) (row_valued g n memory fits.rows fits.sized p steps_few.0 steps_few.1),
        omega (arith, r.room, fits.spares),
      ),
    )

    -- a factor more is one of the numbers of words up to the horizon
    words_more : p < horizon → factor * g.ins ≡ g.ins ^ (p + 1)
    words_more h = rw (r.words, add-one) (sym (pow-suc g.ins p))

    -- with arrivals prepared
    module _ {arrivals' : List ℕ} (e : arrivals' ≡ put arrivals n (arrival g.gains values factor)) where
      new : Prepared n g.gains values factor arrivals'
      new = prepared arrivals e preparable.1.1

      pub new_valued : Valued n arrivals' factor
      new_valued = arrivals_valued fits.sized new memory p fits.rows r.row r.words steps_few.0 steps_few.1

      pub more : {values' : List ℕ} → p < horizon → values' ≡ put values n (worth (bare g) arrivals' factor)
          → Iterated g n horizon memory spare values' arrivals' (factor * g.ins) (p + 1)
      more {values'} h f =
          record {
            within = omega arith;
            row =
                f ∙ put_ext values n _ _ (arrival-worth fits.sized new)
                ∙ rw (r.row, r.words, row_over g n memory p, row_more g n memory p);
            words = words_more h;
            room = rw (e, length-put) r.room;
            over = λ h. rw (e, put-put) (r.over h);
          }

      -- the row for the horizon, of what stood in memory before it was cleared, and its arrivals
      pub end : (entry : List ℕ) → memory ≡ put entry n (λ k. 0) → horizon ≤ p
          → (values ≡ value_row g n entry horizon)
          × ((factor ≡ g.ins ^ horizon) × (arrivals' ≡ put spare n (arrival g.gains values (g.ins ^ horizon))))
      end entry q h =
          let last : p ≡ horizon = omega (arith, r.within) in
          let words : factor ≡ g.ins ^ horizon = r.words ∙ rw last in (
            r.row ∙ rw (last, q) (cleared-rows g n entry horizon),
            (words, e ∙ r.over _ ∙ rw words),
          )

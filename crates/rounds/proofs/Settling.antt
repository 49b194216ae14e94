-- The loop of rounds, left at the first that drops nothing.
-- Assumes nothing.
use mathlib.Core.Path.{◌≡◌, refl, sym, ap, ◌∙◌}
use mathlib.Core.List.{List, [], ◌∷◌, ◌++◌}
use Prim.Native.Nat.{ℕ, zero, suc, ◌+◌, ◌-◌, ◌≤◌, ◌<◌}
use native.Mathlib.Numerals.{add-one}
use native.Mathlib.Omega.{arith}
use lib.ListN.{length, get_or, take, drop, replicate}
use lib.Seq.{length-take-le}
use Rattle.records.specs.Laws.Bounded.{count-all}
use Rattle.records.specs.Model.Lists.{put}
use Rattle.records.specs.Laws.Lists.{put_ext, put_self, get_d_put-front}
use Rattle.rounds.specs.Model.TableRounds.{round, rounds, kept_count, Settled}
use Rattle.rounds.specs.Model.InPlace.{Rounded}
use Rattle.rounds.specs.Laws.TableRounds.{Stable, length-rounds, in_first, entry_most, fewer, quiet_stable, stable_round, stable_settled}

-- a front that was filled with zeros
pub front_cleared : (d : List ℕ) (n : ℕ) → n ≤ length d → replicate n 0 ++ drop n d ≡ put d n (λ k. 0)
unfolding put
front_cleared [] zero h = refl
front_cleared [] (suc n) h = absurd (omega arith)
front_cleared (x ∷ d) zero h = refl
front_cleared (x ∷ d) (suc n) h = ap (λ (t : List ℕ). 0 ∷ t) (front_cleared d n (omega arith))

-- the rounds from the entries all 0 are the rounds from any memory
module _ (cells : List ℕ) (n ins outs : ℕ) (memory : List ℕ) (room : n ≤ length memory) where
  abbrev all_in : List ℕ
  all_in = put memory n (λ k. 0)

  again : put all_in n (λ k. 0) ≡ all_in
  again = put_ext all_in n _ _ (λ k h. sym (get_d_put-front memory n _ k 0 h (omega arith))) ∙ put_self all_in n

  pub same-rounds : (r : ℕ) → rounds cells n ins outs all_in r ≡ rounds cells n ins outs memory r
  unfolding rounds
  same-rounds zero = again
  same-rounds (suc r) = rw (same-rounds r)

-- the loop begins with all states in
pub record Began (n : ℕ) (memory start : List ℕ) : Type 0 where
  pub room : n ≤ length memory
  pub cleared : start ≡ put memory n (λ k. 0)

-- so it does where the front was filled with zeros
pub filled : {n : ℕ} {memory front : List ℕ} → n ≤ length memory → front ≡ replicate (length (take n memory)) 0
    → Began n memory (front ++ drop n memory)
filled {n} {memory} room e =
    record { room = room; cleared = rw (e, length-take-le n memory room) (front_cleared memory n room) }

-- after so many rounds from `start`, each of which dropped a state
pub record Settling (cells : List ℕ) (n ins outs : ℕ) (start now : List ℕ) (kept made : ℕ) : Type 0 where
  pub entries : now ≡ rounds cells n ins outs start made
  pub counted : kept ≡ kept_count n now
  pub enough : kept + made ≤ n

pub begin : (cells : List ℕ) (n ins outs : ℕ) {memory start : List ℕ} → Began n memory start
    → Settling cells n ins outs start start n 0
unfolding rounds kept_count
begin cells n ins outs {memory} {start} b =
    record {
      entries = rw b.cleared (sym (again cells n ins outs memory b.room));
      counted = rw b.cleared (sym (count-all n _ (in_first cells n ins outs memory b.room)));
      enough = omega arith;
    }

module _ {cells : List ℕ} {n ins outs : ℕ} {memory start now : List ℕ} {kept made : ℕ}
    (b : Began n memory start) (inv : Settling cells n ins outs start now kept made) where
  -- the entries are those after so many rounds from memory
  from_memory : now ≡ rounds cells n ins outs memory made
  from_memory = inv.entries ∙ rw b.cleared (same-rounds cells n ins outs memory b.room made)

  same : length now ≡ length memory
  same = rw from_memory (length-rounds cells n ins outs memory made)

  pub room_now : n ≤ length now
  room_now = omega (arith, same, b.room)

  -- a round has a number above those of the entries
  pub low : (k : ℕ) → k < n → get_or now k 0 < made + 1
  low k h = rw from_memory (omega (arith, entry_most cells n ins outs memory b.room made k h))

-- a round more
pub record Turned (cells : List ℕ) (n ins outs : ℕ) (memory start now after : List ℕ) (kept made lost : ℕ) : Type 0 where
  pub began : Began n memory start
  pub inv : Settling cells n ins outs start now kept made
  pub turn : Rounded cells n ins outs (made + 1) now after lost

module _ {cells : List ℕ} {n ins outs : ℕ} {memory start now after : List ℕ} {kept made lost : ℕ}
    (t : Turned cells n ins outs memory start now after kept made lost) where
  -- what it made
  is_round : after ≡ round cells n ins outs (suc made) now
  is_round = t.turn.entries ∙ rw (add-one made)

  pub go : (lost ≡ 0 → ⊥) → Settling cells n ins outs start after (kept - lost) (made + 1)
  unfolding rounds
  go ne =
      let down : kept_count n after ≤ kept_count n now = rw is_round (fewer cells n ins outs made now (room_now t.began t.inv)) in
      let some : 1 ≤ lost = omega arith in
      record {
        entries = rw add-one (is_round ∙ rw t.inv.entries);
        counted = omega (arith, t.turn.counted, t.inv.counted);
        enough = omega (arith, t.inv.enough, t.turn.counted, t.inv.counted);
      }

  pub stop : lost ≡ 0 → Settled cells n ins outs memory after kept
  stop e =
      let still : Stable cells n ins outs now =
      quiet_stable cells n ins outs made now (room_now t.began t.inv) (rw (← is_round) (omega (arith, t.turn.counted))) in
      let unchanged : after ≡ now = is_round ∙ stable_round cells n ins outs (suc made) now still in
      record {
        entries =
            unchanged ∙ from_memory t.began t.inv
            ∙ stable_settled cells n ins outs memory made (omega (arith, t.inv.enough)) (rw (from_memory t.began t.inv) at still);
        counted = rw unchanged t.inv.counted;
      }

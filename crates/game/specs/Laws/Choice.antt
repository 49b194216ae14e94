-- Laws of the choice: it leads, and only what is tested and scored counts.
-- Assumes nothing.
use Rattle.std.specs.Prelude.{◌≡◌, Bool, ◌&&◌, ◌||◌}
use Rattle.std.proofs.Math.Path.{refl, ap}
use Rattle.std.proofs.Common.{sym}
use Rattle.std.proofs.Math.Bool.{true, false, cond}
use Rattle.std.proofs.Math.Option.{Option, none, some, get_or}
use Prim.Native.Nat.{ℕ, zero, suc, ◌+◌, ◌≤◌, ◌<◌}
use Rattle.std.proofs.Math.Numerals.{add-one}
use native.Mathlib.Omega.{arith}
use Rattle.std.proofs.Math.Dec.{ltb, eqb}
use borrow.Author.Tests.{ltb-true, ltb-false, eqb-true, eqb-false}
use Rattle.records.specs.Laws.Tests.{both_ways, and_left, and_right, or_cases}
use Rattle.records.specs.Model.Bounded.{top}
use Rattle.records.specs.Laws.Bounded.{top_ge, top_le, cases_suc}
use Rattle.game.specs.Model.Choice.{Leads, before, against, leader, choose}

module _ (p : ℕ → Bool) (score rank : ℕ → ℕ) where
  -- as a loop that counts up finds it: before the first candidate
  pub leader_none : leader 0 p score rank ≡ none
  unfolding leader
  leader_none = refl

  -- and with one candidate more
  pub leader_more : (n : ℕ)
      → leader (n + 1) p score rank ≡ cond (p n) (some (against score rank n (leader n p score rank))) (leader n p score rank)
  unfolding leader
  leader_more n = rw add-one

  not-before : (a b : ℕ) → before score rank a b ≡ false → (score a ≤ score b) × (score a ≡ score b → rank a ≤ rank b)
  unfolding before
  not-before a b = go (ltb (score b) (score a)) (eqb (score b) (score a)) (ltb (rank b) (rank a)) refl refl refl
    where
      go : (x y z : Bool) → ltb (score b) (score a) ≡ x → eqb (score b) (score a) ≡ y → ltb (rank b) (rank a) ≡ z
          → x || (y && z) ≡ false → (score a ≤ score b) × (score a ≡ score b → rank a ≤ rank b)
      go true y z ex ey ez e = both_ways refl e
      go false true true ex ey ez e = both_ways refl e
      go false true false ex ey ez e = (ltb-false _ _ ex, λ q. ltb-false _ _ ez)
      go false false z ex ey ez e = (ltb-false _ _ ex, λ q. absurd (eqb-false _ _ ey (sym q)))

  is_before : (a b : ℕ) → before score rank a b ≡ true → (score b ≤ score a) × (score b ≡ score a → rank b ≤ rank a)
  unfolding before
  is_before a b e =
      or_cases (ltb (score b) (score a)) _ e (λ x. omega (arith, ltb-true)) (λ x.
      let same : score b ≡ score a = eqb-true _ _ (and_left (eqb (score b) (score a)) _ x) in
      let less : rank b < rank a = ltb-true _ _ (and_right (eqb (score b) (score a)) _ x) in
      omega arith)

  -- what has been found among the numbers below n
  abbrev Found : ℕ → Option ℕ → Type 0
  Found n none = (q : ℕ) → q < n → p q ≡ true → ⊥
  Found n (some o) = Leads n p score rank o

  -- the candidate n passes the test
  wins : (n : ℕ) (m : Option ℕ) → p n ≡ true → Found n m → Leads (suc n) p score rank (against score rank n m)
  unfolding against
  wins n none e f =
      record {
        low = omega arith;
        pass = e;
        most = λ q h k. cases_suc q n h (λ u. absurd (f q u k)) (λ u. rw u (omega arith));
        tie = λ q h k s. cases_suc q n h (λ u. absurd (f q u k)) (λ u. rw u (omega arith));
      }
  wins n (some b) e f = go (before score rank n b) refl
    where
      go : (x : Bool) → before score rank n b ≡ x → Leads (suc n) p score rank (cond x n b)
      go true t =
          let w = is_before n b t in
          record {
            low = omega arith;
            pass = e;
            most = λ q h k. cases_suc q n h (λ u. omega (arith, f.most q u k, w.0)) (λ u. rw u (omega arith));
            tie = λ q h k s. cases_suc q n h (λ u.
                let big : score b ≤ score n = w.0 in
                let mid : score q ≤ score b = f.most q u k in
                omega (arith, f.tie q u k (omega arith), w.1 (omega arith))) (λ u. rw u (omega arith));
          }
      go false t =
          let w = not-before n b t in
          record {
            low = omega (arith, f.low);
            pass = f.pass;
            most = λ q h k. cases_suc q n h (λ u. f.most q u k) (λ u. rw u w.0);
            tie = λ q h k s. cases_suc q n h (λ u. f.tie q u k s) (λ u. rw u (w.1 (rw u at s)));
          }

  -- it does not
  loses : (n : ℕ) (m : Option ℕ) → p n ≡ false → Found n m → Found (suc n) m
  loses n none e f = λ q h k. cases_suc q n h (λ u. f q u k) (λ u. both_ways (rw u at k) e)
  loses n (some b) e f =
      record {
        low = omega (arith, f.low);
        pass = f.pass;
        most = λ q h k. cases_suc q n h (λ u. f.most q u k) (λ u. both_ways (rw u at k) e);
        tie = λ q h k s. cases_suc q n h (λ u. f.tie q u k s) (λ u. both_ways (rw u at k) e);
      }

  found : (n : ℕ) → Found n (leader n p score rank)
  unfolding leader
  found zero = λ q h k. omega arith
  found (suc n) = go (p n) refl (found n)
    where
      go : (x : Bool) → p n ≡ x → Found n (leader n p score rank)
          → Found (suc n) (cond x (some (against score rank n (leader n p score rank))) (leader n p score rank))
      go true e f = wins n (leader n p score rank) e f
      go false e f = loses n (leader n p score rank) e f

  -- where some number passes the test, the chosen one leads
  pub choose_leads : (n q : ℕ) → q < n → p q ≡ true → Leads n p score rank (choose n p score rank)
  unfolding choose
  choose_leads n q h k = go (leader n p score rank) (found n)
    where
      go : (m : Option ℕ) → Found n m → Leads n p score rank (get_or m 0)
      go none f = absurd (f q h k)
      go (some o) f = f

  -- the score of one that leads is the largest
  pub leads_top : (n o : ℕ) → Leads n p score rank o → score o ≡ top n p score
  leads_top n o l = omega (arith, top_ge n p score o l.low l.pass, top_le n p score (score o) l.most)

-- only the test below n counts, and the scores of the numbers that pass it
module _ (p q : ℕ → Bool) (f g rank : ℕ → ℕ) where
  against_cong : (n : ℕ) (m : Option ℕ) → f n ≡ g n → ((o : ℕ) → o < n → p o ≡ true → f o ≡ g o) → Found p f rank n m
      → against f rank n m ≡ against g rank n m
  unfolding against before
  against_cong n none e h found = refl
  against_cong n (some b) e h found =
      let same : f b ≡ g b = h b found.low found.pass in rw (e, same)

  leader_cong : (n : ℕ) → ((o : ℕ) → o < n → p o ≡ q o) → ((o : ℕ) → o < n → p o ≡ true → f o ≡ g o)
      → leader n p f rank ≡ leader n q g rank
  unfolding leader
  leader_cong zero e h = refl
  leader_cong (suc n) e h =
      let rest : leader n p f rank ≡ leader n q g rank = leader_cong n (λ o k. e o (omega arith)) (λ o k. h o (omega arith)) in
      rw (← e n (omega arith), ← rest) (go (p n) refl)
    where
      go : (x : Bool) → p n ≡ x
          → cond x (some (against f rank n (leader n p f rank))) (leader n p f rank)
          ≡ cond x (some (against g rank n (leader n p f rank))) (leader n p f rank)
      go true t =
          ap {B = Option ℕ} some (against_cong n (leader n p f rank) (h n (omega arith) t) (λ o k. h o (omega arith)) (found p f rank n))
      go false t = refl

  -- so the choice is the same
  pub choose_cong : (n : ℕ) → ((o : ℕ) → o < n → p o ≡ q o) → ((o : ℕ) → o < n → p o ≡ true → f o ≡ g o)
      → choose n p f rank ≡ choose n q g rank
  unfolding choose
  choose_cong n e h = rw (leader_cong n e h)

-- The exploration meets states as document 01 numbers them: once all states of its list have been looked at, the list
-- numbers the reachable states as first met (FirstMet). The states may be explored under names, as by their numbers.
-- Assumes nothing.
use Rattle.std.specs.Prelude.{◌≡◌, Bool, true, get_or}
use Rattle.std.proofs.Common.{sym, ◌∙◌, subst, length-append, le-ltb}
use Rattle.std.proofs.Math.Path.{ap}
use mathlib.Core.List.{List, [], ◌∷◌, ◌++◌, append_assoc}
use Prim.Native.Nat.{ℕ, zero, suc, ◌+◌, ◌≤◌, ◌<◌}
use Rattle.std.proofs.Math.Decide.{dec_lt}
use Rattle.std.proofs.Math.Numerals.{add-one}
use native.Mathlib.Omega.{arith}
use Rattle.std.proofs.Math.ListN.{length}
use Rattle.std.proofs.Math.Seq.{get_or-append_seam}
use Rattle.records.specs.Laws.Tests.{by_test}
use Rattle.game.specs.Model.Numbering.{Reach, there, Has, Extends, find, met, explore, visit}
use Rattle.game.specs.Laws.Numbering.{find_at, distinct_number, extends_at, extends_length, met_grows, met-length, met-broken, met_known, met_new, met_has, met-part, explore_next, explore_later, explore_start, explore-reached, explore_distinct, explore_shut, explore-all}
use Rattle.game.specs.Meaning.FirstMet.{MetBy, FirstMet}

module _
    (A : Type 0) (same : A → A → Bool) (M : ℕ) (ok : A → ℕ → Bool) (next : A → ℕ → A) (start : A)
    (sound : (a b : A) → same a b ≡ true → a ≡ b) (self : (a : A) → same a a ≡ true)
  where
    -- the list once the states numbered below k have been looked at, and while state j is, up to the letter l
    abbrev stage : ℕ → List A
    stage = explore A same M ok next start

    abbrev within : ℕ → ℕ → List A
    within j = met A same M ok next start (stage j) (get_or (stage j) j start)

    -- state n is added at the letter l of s, after the list L
    pub record AddedAt (L : List A) (s : A) (n l : ℕ) : Type 0 where
      pub passes : ok s l ≡ true
      pub number : length (met A same M ok next start L s l) ≡ n
      pub new : length (met A same M ok next start L s l) ≤ find A same (next s l) (met A same M ok next start L s l)

    -- what stands in the list after some letters of s, and not before them, is added at one of them
    met_added : (L : List A) (s : A) (n m : ℕ) → length L ≤ n → n < length (met A same M ok next start L s m)
        → (l : ℕ) × (l < m) × AddedAt L s n l
    unfolding met
    met_added L s n zero h k = absurd (omega arith)
    met_added L s n (suc m) h k =
        elim (dec_lt n (length before)) [
          | yes q ↦ let x = met_added L s n m h q in (x.0, omega (arith, x.1), x.2)
          | no q ↦
              let grown : n < length (met A same M ok next start L s (m + 1)) = rw add-one k in
              let size : length before ≡ n = omega (arith, met-length A same M ok next start L s m) in
              by_test (ok s m)
              (λ t. elim (dec_lt (find A same (next s m) before) (length before)) [
                | yes f ↦ absurd (omega (arith, ap length (met_known A same M ok next start L s m t f)))
                | no f ↦ (m, omega arith, record { passes = t; number = size; new = omega arith })
              ])
              (λ t. absurd (omega (arith, ap length (met-broken A same M ok next start L s m t))))
        ]
      where
        before : List A
        before = met A same M ok next start L s m

    -- state n of the list, not the start, is added while state j is looked at, at the letter l
    pub record Added (n j l : ℕ) : Type 0 where
      pub looked : j < length (stage j)
      pub letter : l < M
      pub at : AddedAt (stage j) (get_or (stage j) j start) n l

    explore_added : (k n : ℕ) → 0 < n → n < length (stage k) → (j : ℕ) × (l : ℕ) × (j < k) × Added n j l
    unfolding explore visit
    explore_added zero n some h = absurd (omega arith)
    explore_added (suc k) n some h =
        elim (dec_lt n (length (stage k))) [
          | yes q ↦ let x = explore_added k n some q in (x.0, x.1, omega (arith, x.2), x.3)
          | no q ↦
              elim (dec_lt k (length (stage k))) [
                | yes f ↦
                    let all : n < length (within k M) = rw (← explore_next A same M ok next start k f, add-one) h in
                    let x = met_added (stage k) (get_or (stage k) k start) n M (omega arith) all in
                    (k, x.0, omega arith, record { looked = f; letter = x.1; at = x.2 })
                | no f ↦ absurd (q (rw (le-ltb k (length (stage k)) (omega arith)) at h))
              ]
        ]

    -- ---- the whole list

    module _ (K : ℕ) (done : length (stage K) ≤ K) where
      -- places of an earlier list are places of the whole one
      later : (j : ℕ) → j ≤ K → (i : ℕ) → i < length (stage j) → get_or (stage K) i start ≡ get_or (stage j) i start
      later j h i l = extends_at (stage j) (stage K) (explore_later A same M ok next start j K h) i start l

      -- a state that stands in the front L of the whole list has a number below its length
      front_number : (L : List A) → Extends L (stage K) → (x : A) → Has A same x L → (n : ℕ) → n < length (stage K)
          → get_or (stage K) n start ≡ x → n < length L
      front_number L e x has n h q =
          let place : ℕ = find A same x L in
          let there : get_or (stage K) place start ≡ x =
          extends_at L (stage K) e place start has ∙ find_at A same sound self x L start has in
          let long : length L ≤ length (stage K) = extends_length L (stage K) e in
          let one : n ≡ place =
          distinct_number start (stage K) (explore_distinct A same M ok next start sound self K) n place h (omega arith) (q ∙ sym there) in
          omega arith

      module _ (n j l : ℕ) (low : j < K) (added : Added n j l) where
        abbrev s : A
        s = get_or (stage j) j start

        -- the list on the way is a front of the whole one
        way : (m : ℕ) → m ≤ M → Extends (within j m) (stage K)
        way m h =
            let a = met-part A same M ok next start j m added.looked h in
            let b = explore_later A same M ok next start (j + 1) K (omega arith) in
            (a.0 ++ b.0, b.1 ∙ ap (λ (x : List A). x ++ b.0) a.1 ∙ append_assoc (within j m) a.0 b.0)

        -- the step at which it was added leads to it
        lands : get_or (stage K) n start ≡ next s l
        lands =
            let grown : within j (l + 1) ≡ within j l ++ (next s l ∷ []) =
            met_new A same M ok next start (stage j) s l added.at.passes added.at.new in
            let size : length (within j l) ≡ n = added.at.number in
            let long : n < length (within j (l + 1)) = rw grown (omega (arith, length-append (within j l) (next s l ∷ []))) in
            extends_at (within j (l + 1)) (stage K) (way (l + 1) (omega (arith, added.letter))) n start long
            ∙ rw (grown, ← size) (get_or-append_seam (within j l) (next s l) [] start)

    -- ---- under names: `name a` is a state of In, and steps of names are the steps of their states

    module _
        (S : Type 0) (In : S → Type 0) (Leads : S → ℕ → S → Type 0) (name : A → S)
        (each : (a : A) → Reach A M ok next start a → In (name a))
        (all : (x : S) → In x → (a : A) × Reach A M ok next start a × (name a ≡ x))
        (once : (a b : A) → Reach A M ok next start a → Reach A M ok next start b → name a ≡ name b → a ≡ b)
        (leads : (a : A) (l : ℕ) → Reach A M ok next start a → l < M → ok a l ≡ true → Leads (name a) l (name (next a l)))
        (led : (a : A) (l : ℕ) (u : S) → Reach A M ok next start a → Leads (name a) l u
        → (l < M) × (ok a l ≡ true) × (name (next a l) ≡ u))
        (K : ℕ) (done : length (stage K) ≤ K)
        (states : List S) (size : length states ≡ length (stage K))
        (names : (k : ℕ) → k < length (stage K) → get_or states k (name start) ≡ name (get_or (stage K) k start))
      where
        reached : (k : ℕ) → k < length (stage K) → Reach A M ok next start (get_or (stage K) k start)
        reached = explore-reached A same M ok next start K

        -- a step of a state of the list ends in the state whose name it is
        step_ends : (i m n : ℕ) → i < length (stage K) → n < length (stage K)
            → Leads (get_or states i (name start)) m (get_or states n (name start))
            → (m < M) × (ok (get_or (stage K) i start) m ≡ true)
            × (get_or (stage K) n start ≡ next (get_or (stage K) i start) m)
        step_ends i m n hi hn e =
            let a : A = get_or (stage K) i start in
            let r : Reach A M ok next start a = reached i hi in
            let x = led a m (name (get_or (stage K) n start)) r
            (subst (Leads (name a) m) (names n hn) (subst (λ (u : S). Leads u m (get_or states n (name start))) (names i hi) e)) in
            (x.0, x.1, once _ _ (reached n hn) (there m r x.0 x.1) (sym x.2))

        met_by_lem : (n j l : ℕ) → n < length (stage K) → j < K → Added n j l → MetBy S In Leads (name start) states n j l
        met_by_lem n j l hn hj added =
            let known : j < length (stage K) =
            omega (arith, added.looked, extends_length (stage j) (stage K) (explore_later A same M ok next start j K (omega arith))) in
            let here-is : get_or (stage K) j start ≡ get_or (stage j) j start = later K done j (omega arith) j added.looked in
            let number : length (within j l) ≡ n = added.at.number in
            record {
              known = omega (arith, size);
              leads =
                  subst (λ (u : S). Leads u l (get_or states n (name start))) (sym (names j known ∙ ap name here-is))
                  (subst (Leads (name (get_or (stage j) j start)) l) (sym (names n hn ∙ ap name (lands K done n j l hj added)))
                  (leads (get_or (stage j) j start) l (subst (Reach A M ok next start) here-is (reached j known)) added.letter added.at.passes));
              states_before = λ i m k h low e.
                  let lowK : k < length (stage K) = omega (arith, size) in
                  let early : i < length (stage j) = omega (arith, added.looked) in
                  let x = step_ends i m k (omega arith) lowK e in
                  let same-state : get_or (stage K) i start ≡ get_or (stage j) i start = later K done j (omega arith) i early in
                  let has : Has A same (next (get_or (stage j) i start) m) (stage j) =
                  explore_shut A same M ok next start sound self j i h early m x.0
                  (subst (λ (a : A). ok a m ≡ true) same-state x.1) in
                  let low-in : k < length (stage j) =
                  front_number K done (stage j) (explore_later A same M ok next start j K (omega arith)) _ has k lowK
                  (x.2 ∙ ap (λ (a : A). next a m) same-state) in
                  omega (arith, low-in, extends_length (stage j) (within j l) (met_grows A same M ok next start (stage j) (get_or (stage j) j start) l));
              letters_before = λ m k h low e.
                  let lowK : k < length (stage K) = omega (arith, size) in
                  let x = step_ends j m k known lowK e in
                  let has : Has A same (next (get_or (stage j) j start) m) (within j l) =
                  met_has A same M ok next start sound self (stage j) (get_or (stage j) j start) l m h
                  (subst (λ (a : A). ok a m ≡ true) here-is x.1) in
                  let low-in : k < length (within j l) =
                  front_number K done (within j l) (way K done n j l hj added l (omega (arith, added.letter))) _ has k lowK
                  (x.2 ∙ ap (λ (a : A). next a m) here-is) in
                  omega (arith, low-in);
            }

        -- the list of the states by these names numbers them as first met
        pub explored_first-met : FirstMet S In Leads (name start) states
        explored_first-met =
            record {
              each = λ k h.
                  let low : k < length (stage K) = omega (arith, size) in subst In (sym (names k low)) (each _ (reached k low));
              all = λ x r.
                  let a = all x r in
                  let has : Has A same a.0 (stage K) = explore-all A same M ok next start sound self K done a.0 a.1 in
                  let place : ℕ = find A same a.0 (stage K) in
                  (place, omega (arith, size, has), names place has ∙ ap name (find_at A same sound self a.0 (stage K) start has) ∙ a.2);
              once = λ i j h k e.
                  let lowJ : j < length (stage K) = omega (arith, size) in
                  let lowI : i < length (stage K) = omega arith in
                  explore_distinct A same M ok next start sound self K i j h lowJ
                  (once _ _ (reached i lowI) (reached j lowJ) (sym (names i lowI) ∙ e ∙ names j lowJ));
              first =
                  let x = explore_start A same M ok next start K in names 0 x.0 ∙ ap name x.1;
              met = λ k some h.
                  let low : k < length (stage K) = omega (arith, size) in
                  let x = explore_added K k some low in
                  (x.0, x.1, met_by_lem k x.0 x.1 low x.2 x.3);
            }

-- Laws of value iteration: how large values become, and that the output chosen is the first move of a best plan.
-- Assumes nothing.
use Rattle.std.specs.Prelude.{◌≡◌, ◌↔◌, Bool, true, replicate}
use Rattle.std.proofs.Math.Path.{refl, ap}
use Rattle.std.proofs.Common.{sym, ◌∙◌, pow-suc, suc-mul, add-mul, mul-le-mul_right}
use mathlib.Core.List.{List, [], ◌∷◌}
use Prim.Native.Nat.{ℕ, zero, suc, ◌+◌, ◌*◌, ◌^◌, ◌≤◌, ◌<◌}
use Rattle.std.proofs.Math.Nat.{mul_assoc, mul_comm}
use Rattle.std.proofs.Math.Decide.{dec_lt}
use Rattle.std.proofs.Math.Numerals.{add-one}
use native.Mathlib.Omega.{arith}
use Rattle.records.specs.Meaning.Bounded.{sum}
use Rattle.records.specs.Laws.Bounded.{sum_le, sum_cong, sum_most, top_ge, top_le}
use Rattle.records.specs.Model.Bounded.{top}
use Rattle.game.specs.Meaning.Words.{Word, words, total}
use Rattle.game.specs.Laws.Words.{some_word, word_cons, word_tail, total_cong, total-words, words-add}
use Rattle.game.specs.Meaning.Strategy.{Along, first, after}
use Rattle.game.specs.Laws.Strategy.{firstly, along_firstly}
use Rattle.game.specs.Meaning.Plans.{rewards, Plan, earns, BestPlan, FirstMove, Move}
use Rattle.game.specs.Model.Choice.{Leads}
use Rattle.game.specs.Laws.Choice.{choose_leads, leads_top}
use Rattle.game.specs.Model.Value as modelValue

module _ (S : Type 0) (I O : ℕ) (step : S → ℕ → ℕ → S) (may : S → ℕ → ℕ → Bool) (reward : S → ℕ → ℕ → ℕ) where
  abbrev value : ℕ → S → ℕ
  value = modelValue.value S I O step may reward

  abbrev score : ℕ → S → ℕ → ℕ → ℕ
  score = modelValue.score S I O step may reward

  abbrev choice : (ℕ → ℕ) → ℕ → S → ℕ → ℕ
  choice = modelValue.choice S I O step may reward

  -- with no inputs to come nothing is earned
  pub value_none : (s : S) → value 0 s ≡ 0
  unfolding modelValue.value
  value_none s = refl

  -- one input more
  pub value_more : (p : ℕ) (s : S) → value (p + 1) s ≡ sum I (λ i. top O (may s i) (score p s i))
  unfolding modelValue.value modelValue.score
  value_more p s = rw add-one

  -- ---- bounds

  module _ (W : ℕ) (bound : (s : S) (i o : ℕ) → i < I → o < O → reward s i o ≤ W) where
    one_more : (p : ℕ) (s : S) (i o : ℕ) → i < I → o < O → value p (step s i o) ≤ p * W * I ^ p
        → reward s i o * I ^ p + value p (step s i o) ≤ suc p * W * I ^ p
    one_more p s i o hi ho h =
        omega (
          arith,
          mul-le-mul_right (I ^ p) (bound s i o hi ho),
          ap (λ (x : ℕ). x * I ^ p) (suc-mul p W) ∙ add-mul (p * W) W (I ^ p),
        )

    -- over all words of p inputs at most p * W is earned at each of the I ^ p words
    pub value_most : (p : ℕ) (s : S) → value p s ≤ p * W * I ^ p
    unfolding modelValue.value
    value_most zero s = omega arith
    value_most (suc p) s =
        omega (
          arith,
          sum_most I (suc p * W * I ^ p) _ (λ i hi. top_le O (may s i) _ _ (λ o ho e. one_more p s i o hi ho (value_most p (step s i o)))),
          mul_comm I (suc p * W * I ^ p) ∙ mul_assoc (suc p * W) (I ^ p) I ∙ ap (λ (x : ℕ). suc p * W * x) (sym (pow-suc I p)),
        )

    -- and a score at most W for each of H + 1 steps
    pub score_most : (H : ℕ) (s : S) (i o : ℕ) → i < I → o < O → score H s i o ≤ (H + 1) * W * I ^ H
    unfolding modelValue.score
    score_most H s i o hi ho = rw add-one (one_more H s i o hi ho (value_most H (step s i o)))

  -- ---- strategies that choose

  module _ (rank : ℕ → ℕ) where
    -- the strategy that chooses, with one input less to come at each step
    best_for : ℕ → S → List ℕ → ℕ
    best_for zero s h = 0
    best_for (suc p) s [] = 0
    best_for (suc p) s (i ∷ h) = firstly (choice rank p s i) (best_for p (step s i (choice rank p s i))) h

    -- the plan that begins with o and goes on so
    opening : ℕ → S → ℕ → ℕ → List ℕ → ℕ
    opening H s i o [] = 0
    opening H s i o (j ∷ h) = firstly o (best_for H (step s i o)) h

  -- ---- what is chosen is the first move of a best plan, where `may` decides `Ok` in the states of Good, which is never left

  module _
      (Ok : S → ℕ → ℕ → Type 0) (Good : S → Type 0)
      (live : (s : S) (i : ℕ) → Good s → i < I → (o : ℕ) × (o < O) × (may s i o ≡ true))
      (stays : (s : S) (i o : ℕ) → Good s → i < I → o < O → may s i o ≡ true → Good (step s i o))
      (decides : (s : S) (i o : ℕ) → Good s → i < I → o < O → (may s i o ≡ true) ↔ Ok s i o)
    where
      abbrev rewards_of : (List ℕ → ℕ) → S → List ℕ → ℕ
      rewards_of = rewards S I O step Ok reward

      abbrev PlanFor : ℕ → S → ℕ → (List ℕ → ℕ) → Type 0
      PlanFor = Plan S I O step Ok reward

      abbrev earned : ℕ → S → ℕ → (List ℕ → ℕ) → ℕ
      earned = earns S I O step Ok reward

      -- the first step of a plan, and the rest of it
      earned_split : (H : ℕ) (s : S) (i : ℕ) (f : List ℕ → ℕ)
          → earned H s i f ≡ reward s i (first i f) * I ^ H + total (rewards_of (after i f) (step s i (first i f))) (words I H)
      earned_split H s i f = words-add I (reward s i (first i f)) (rewards_of (after i f) (step s i (first i f))) H

      plan_low : (H : ℕ) (s : S) (i : ℕ) (f : List ℕ → ℕ) → i < I → PlanFor H s i f → first i f < O
      plan_low H s i f h a = (a (replicate H i) (some_word I H i h)).0

      plan_ok : (H : ℕ) (s : S) (i : ℕ) (f : List ℕ → ℕ) → i < I → PlanFor H s i f → Ok s i (first i f)
      plan_ok H s i f h a = (a (replicate H i) (some_word I H i h)).1

      plan_may : (H : ℕ) (s : S) (i : ℕ) (f : List ℕ → ℕ) → Good s → i < I → PlanFor H s i f → may s i (first i f) ≡ true
      plan_may H s i f g h a = (decides s i (first i f) g h (plan_low H s i f h a)).1 (plan_ok H s i f h a)

      plan_good : (H : ℕ) (s : S) (i : ℕ) (f : List ℕ → ℕ) → Good s → i < I → PlanFor H s i f → Good (step s i (first i f))
      plan_good H s i f g h a = stays s i (first i f) g h (plan_low H s i f h a) (plan_may H s i f g h a)

      -- no strategy earns more than the value
      most_value : (p : ℕ) (f : List ℕ → ℕ) (s : S) → Good s → ((w : List ℕ) → Word I p w → Along S O step Ok f s w)
          → total (rewards_of f s) (words I p) ≤ value p s
      unfolding modelValue.value modelValue.score words total
      most_value zero f s g a = omega arith
      most_value (suc p) f s g a =
          rw (total-words I (rewards_of f s) p)
          (sum_le I (λ i. earned p s i f) (λ i. top O (may s i) (score p s i)) (λ i h.
          let plan : PlanFor p s i f = λ w r. a (i ∷ w) (word_cons I p i w h r) in
          let rest = most_value p (after i f) (step s i (first i f)) (plan_good p s i f g h plan) (λ w r. (plan w r).2) in
          omega (
            arith,
            rest,
            earned_split p s i f,
            top_ge O (may s i) (score p s i) (first i f) (plan_low p s i f h plan) (plan_may p s i f g h plan),
          )))

      -- no plan earns more than the score of its first move
      pub earns_le : (H : ℕ) (s : S) (i : ℕ) (f : List ℕ → ℕ) → Good s → i < I → PlanFor H s i f
          → earned H s i f ≤ score H s i (first i f)
      unfolding modelValue.score
      earns_le H s i f g h a =
          omega (
            arith,
            earned_split H s i f,
            most_value H (after i f) (step s i (first i f)) (plan_good H s i f g h a) (λ w r. (a w r).2),
          )

      -- the first moves of best plans
      module _ (H : ℕ) (s : S) (i : ℕ) (small : i < I) where
        -- they are outputs
        pub first_low : (o : ℕ) → FirstMove S I O step Ok reward H s i o → o < O
        first_low o m = rw m.2 at (plan_low H s i m.0 small m.1.plan)

        -- each is Ok
        pub first_ok : (o : ℕ) → FirstMove S I O step Ok reward H s i o → Ok s i o
        first_ok o m = rw m.2 at (plan_ok H s i m.0 small m.1.plan)

        -- and leads to a good state
        pub first_good : Good s → (o : ℕ) → FirstMove S I O step Ok reward H s i o → Good (step s i o)
        first_good g o m = rw m.2 at (plan_good H s i m.0 g small m.1.plan)

      rewards-firstly : (o : ℕ) (f : List ℕ → ℕ) (s : S) (w : List ℕ) → rewards_of (firstly o f) s w ≡ rewards_of f s w
      rewards-firstly o f s [] = refl
      rewards-firstly o f s (i ∷ w) = refl

      module _ (rank : ℕ → ℕ) where
        -- the chosen output leads
        pub choice_leads : (H : ℕ) (s : S) (i : ℕ) → Good s → i < I → Leads O (may s i) (score H s i) rank (choice rank H s i)
        unfolding modelValue.choice
        choice_leads H s i g h = let x = live s i g h in choose_leads (may s i) (score H s i) rank O x.0 x.1 x.2

        -- and leads to a good state
        pub choice_good : (H : ℕ) (s : S) (i : ℕ) → Good s → i < I → Good (step s i (choice rank H s i))
        choice_good H s i g h = let l = choice_leads H s i g h in stays s i _ g h l.low l.pass

        best_along : (p : ℕ) (s : S) → Good s → (w : List ℕ) → Word I p w → Along S O step Ok (best_for rank p s) s w
        unfolding best_for
        best_along zero s g [] r = tt
        best_along zero s g (i ∷ w) r = absurd (omega (arith, r.long))
        best_along (suc p) s g [] r = tt
        best_along (suc p) s g (i ∷ w) r =
            let h : i < I = r.below.0 in
            let l = choice_leads p s i g h in
            let o : ℕ = choice rank p s i in (
              l.low,
              (decides s i o g h l.low).0 l.pass,
              along_firstly S O step Ok o (best_for rank p (step s i o)) (step s i o) w
                  (best_along p (step s i o) (choice_good p s i g h) w (word_tail I p i w r)),
            )

        -- choosing earns the value
        best_earns : (p : ℕ) (s : S) → Good s → total (rewards_of (best_for rank p s) s) (words I p) ≡ value p s
        unfolding best_for modelValue.value modelValue.score words total
        best_earns zero s g = omega arith
        best_earns (suc p) s g =
            total-words I (rewards_of (best_for rank (suc p) s) s) p
            ∙ sum_cong I (λ i. earned p s i (best_for rank (suc p) s)) (λ i. top O (may s i) (score p s i)) (λ i h.
            let o : ℕ = choice rank p s i in
            let n : S = step s i o in
            earned_split p s i (best_for rank (suc p) s)
            ∙ ap (λ (x : ℕ). reward s i o * I ^ p + x)
            (total_cong _ _ (words I p) (rewards-firstly o (best_for rank p n) n) ∙ best_earns p n (choice_good p s i g h))
            ∙ leads_top (may s i) (score p s i) rank O o (choice_leads p s i g h))

        module _ (H : ℕ) (s : S) (i : ℕ) (good : Good s) (small : i < I) where
          -- any output that may be given begins a plan that earns its score
          opening_plan : (o : ℕ) → o < O → may s i o ≡ true → PlanFor H s i (opening rank H s i o)
          unfolding opening
          opening_plan o h k w r = (
            h,
            (decides s i o good small h).0 k,
            along_firstly S O step Ok o (best_for rank H (step s i o)) (step s i o) w
                (best_along H (step s i o) (stays s i o good small h k) w r),
          )

          opening_earns : (o : ℕ) → o < O → may s i o ≡ true → earned H s i (opening rank H s i o) ≡ score H s i o
          unfolding opening modelValue.score
          opening_earns o h k =
              earned_split H s i (opening rank H s i o)
              ∙ ap (λ (x : ℕ). reward s i o * I ^ H + x)
              (total_cong _ _ (words I H) (rewards-firstly o (best_for rank H (step s i o)) (step s i o))
              ∙ best_earns H (step s i o) (stays s i o good small h k))

          -- one that leads begins a best plan
          opening_best : (o : ℕ) → Leads O (may s i) (score H s i) rank o → BestPlan S I O step Ok reward H s i (opening rank H s i o)
          opening_best o l =
              record {
                plan = opening_plan o l.low l.pass;
                most = λ g a. omega (
                  arith,
                  earns_le H s i g good small a,
                  l.most (first i g) (plan_low H s i g small a) (plan_may H s i g good small a),
                  opening_earns o l.low l.pass,
                );
              }

          -- the first moves of best plans are of no higher rank than one that leads
          first_under : (o q : ℕ) → Leads O (may s i) (score H s i) rank o → FirstMove S I O step Ok reward H s i q → rank q ≤ rank o
          first_under o q l m = rw m.2 at (under m.0 m.1)
            where
              under : (f : List ℕ → ℕ) → BestPlan S I O step Ok reward H s i f → rank (first i f) ≤ rank o
              under f b =
                  let low : first i f < O = plan_low H s i f small b.plan in
                  let pass : may s i (first i f) ≡ true = plan_may H s i f good small b.plan in
                  let no_more : score H s i (first i f) ≤ score H s i o = l.most (first i f) low pass in
                  let no_less : score H s i o ≤ score H s i (first i f) =
                  omega (
                    arith,
                    opening_earns o l.low l.pass,
                    b.most (opening rank H s i o) (opening_plan o l.low l.pass),
                    earns_le H s i f good small b.plan,
                  ) in
                  l.tie (first i f) low pass (omega arith)

          choice-first : FirstMove S I O step Ok reward H s i (choice rank H s i)
          unfolding opening
          choice-first = let o : ℕ = choice rank H s i in (opening rank H s i o, opening_best o (choice_leads H s i good small), refl)

          module _ (Higher : ℕ → ℕ → Type 0) (follows : (o q : ℕ) → o < O → q < O → (rank q < rank o) ↔ Higher o q) where
            -- the chosen output is the run book's move
            pub choice_move : Move S I O step Ok reward Higher H s i (choice rank H s i)
            choice_move =
                let l = choice_leads H s i good small in
                record {
                  best = choice-first;
                  highest = λ q m k. omega (arith, first_under _ q l m, (follows q _ (first_low H s i small q m) l.low).1 k);
                }

            -- and, where no two outputs have the same rank, the only one
            pub move_only : ((a b : ℕ) → a < O → b < O → rank a ≡ rank b → a ≡ b)
                → (o : ℕ) → Move S I O step Ok reward Higher H s i o → o ≡ choice rank H s i
            move_only inj o m =
                let c : ℕ = choice rank H s i in
                let l = choice_leads H s i good small in
                let low : o < O = first_low H s i small o m.best in
                elim (dec_lt (rank o) (rank c)) [
                  | yes u ↦ absurd (m.highest c choice-first ((follows c o l.low low).0 u))
                  | no u ↦ inj o c low l.low (omega (arith, first_under c o l m.best))
                ]

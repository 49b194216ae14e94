-- There is only one list of states as first met, if a step at a letter has one end and In holds only what steps reach.
-- Assumes nothing.
use Rattle.std.specs.Prelude.{◌≡◌, List, ℕ, zero, suc, ◌≤◌, ◌<◌, length, get_or}
use Rattle.std.proofs.Common.{sym, ◌∙◌, subst, arith, ext_get_or}
use Rattle.std.proofs.Math.Decide.{dec_lt}
use Rattle.records.specs.Laws.Bounded.{cases_suc}
use Rattle.game.specs.Meaning.FirstMet.{MetBy, FirstMet}

-- In holds of the start, and of what steps reach from it, and of no other state
pub record Generated (S : Type 0) (In : S → Type 0) (Leads : S → ℕ → S → Type 0) (start : S) : Type 1 where
  pub begins : In start
  pub closed : (s u : S) (l : ℕ) → In s → Leads s l u → In u
  pub only : (P : S → Type 0) → P start → ((s u : S) (l : ℕ) → In s → P s → Leads s l u → P u) → (s : S) → In s → P s

module _
    (S : Type 0) (In : S → Type 0) (Leads : S → ℕ → S → Type 0) (start : S)
    (generated : Generated S In Leads start)
    (single : (s u v : S) (l : ℕ) → In s → Leads s l u → Leads s l v → u ≡ v)
  where
    abbrev Numbers : List S → Type 0
    Numbers = FirstMet S In Leads start

    abbrev Meets : List S → ℕ → ℕ → ℕ → Type 0
    Meets = MetBy S In Leads start

    -- two places of a list that hold one state are one
    same_place : (L : List S) → Numbers L → (i j : ℕ) → i < length L → j < length L → get_or L i start ≡ get_or L j start → i ≡ j
    same_place L x i j hi hj e =
        elim (dec_lt i j) [
          | yes h ↦ absurd (x.once i j h hj e)
          | no h ↦ elim (dec_lt j i) [ yes k ↦ absurd (x.once j i k hi (sym e)) | no k ↦ omega arith ]
        ]

    -- a state is first met from one with a lower number: else the states before it would be all that steps reach
    from_lower : (L : List S) → Numbers L → (k j l : ℕ) → 0 < k → k < length L → Meets L k j l → j < k
    from_lower L x k j l some low m =
        elim (dec_lt j k) [
          | yes h ↦ h
          | no h ↦
              let r = generated.only Lower (0, some, x.first) (λ s u a i p e. next s u a i p e (omega arith)) (get_or L k start) (x.each k low) in
              absurd (x.once r.0 k r.1 low r.2)
        ]
      where
        Lower : S → Type 0
        Lower s = (n : ℕ) × (n < k) × (get_or L n start ≡ s)

        next : (s u : S) (a : ℕ) → In s → Lower s → Leads s a u → k ≤ j → Lower u
        next s u a i p e h =
            let q = x.all u (generated.closed s u a i e) in
            let step : Leads (get_or L p.0 start) a (get_or L q.0 start) =
            subst (λ (y : S). Leads y a (get_or L q.0 start)) (sym p.2) (subst (Leads s a) (sym q.2) e) in
            (q.0, m.states_before p.0 a q.0 (omega (arith, p.1)) q.1 step, q.2)

    -- ---- two lists

    module _ (L K : List S) (x : Numbers L) (y : Numbers K) (k : ℕ) (agree : (i : ℕ) → i < k → get_or L i start ≡ get_or K i start) where
      -- the state k of L stands in K no earlier than at k
      not_lower : k < length L → (n : ℕ) → n < k → get_or K n start ≡ get_or L k start → ⊥
      not_lower h n l e = x.once n k l h (agree n l ∙ e)

      -- where the step of state j at l leads in both lists
      module _ (j l : ℕ) (low : j < k) (h : k < length L) (m : Meets L k j l) where
        landed : (n : ℕ) × (n < length K) × (get_or K n start ≡ get_or L k start) × Leads (get_or K j start) l (get_or K n start)
        landed =
            let q = y.all (get_or L k start) (x.each k h) in (
              q.0,
              q.1,
              q.2,
              subst (λ (s : S). Leads s l (get_or K q.0 start)) (agree j low) (subst (Leads (get_or L j start) l) (sym q.2) m.leads),
            )

        -- so K first meets its state k by no later step
        not_later : (i a : ℕ) → Meets K k i a → (j < i → ⊥) × (j ≡ i → l < a → ⊥)
        not_later i a w =
            let q = landed in (
              λ u. not_lower h q.0 (w.states_before j l q.0 u q.1 q.3) q.2,
              λ e u. not_lower h q.0 (w.letters_before l q.0 u q.1
                  (subst (λ (z : ℕ). Leads (get_or K z start) l (get_or K q.0 start)) e q.3)) q.2,
            )

    -- the state k is the same in both, where those before it are
    next_agrees : (L K : List S) → Numbers L → Numbers K → (k : ℕ) → ((i : ℕ) → i < k → get_or L i start ≡ get_or K i start)
        → k < length L → k < length K → get_or L k start ≡ get_or K k start
    next_agrees L K x y zero agree hL hK = x.first ∙ sym y.first
    next_agrees L K x y (suc p) agree hL hK =
        let k : ℕ = suc p in
        let v = x.met k (omega arith) hL in
        let w = y.met k (omega arith) hK in
        let j : ℕ = v.0 in
        let i : ℕ = w.0 in
        let jk : j < k = from_lower L x k j v.1 (omega arith) hL v.2 in
        let ik : i < k = from_lower K y k i w.1 (omega arith) hK w.2 in
        let a = not_later L K x y k agree j v.1 jk hL v.2 i w.1 w.2 in
        let b = not_later K L y x k (λ n h. sym (agree n h)) i w.1 ik hK w.2 j v.1 v.2 in
        let same-state : j ≡ i =
        elim (dec_lt j i) [ yes h ↦ absurd (a.0 h) | no h ↦ elim (dec_lt i j) [ yes g ↦ absurd (b.0 g) | no g ↦ omega arith ] ] in
        let same-letter : v.1 ≡ w.1 =
        elim (dec_lt v.1 w.1) [
          | yes h ↦ absurd (a.1 same-state h)
          | no h ↦ elim (dec_lt w.1 v.1) [ yes g ↦ absurd (b.1 (sym same-state) g) | no g ↦ omega arith ]
        ] in
        let step : Leads (get_or L j start) v.1 (get_or K k start) =
        subst (λ (s : S). Leads s v.1 (get_or K k start)) (sym (agree j jk))
        (subst (λ (n : ℕ). Leads (get_or K j start) n (get_or K k start)) (sym same-letter)
        (subst (λ (n : ℕ). Leads (get_or K n start) w.1 (get_or K k start)) (sym same-state) w.2.leads)) in
        single (get_or L j start) _ _ v.1 (x.each j v.2.known) v.2.leads step

    agrees : (L K : List S) → Numbers L → Numbers K → (n : ℕ) → n ≤ length L → n ≤ length K
        → (i : ℕ) → i < n → get_or L i start ≡ get_or K i start
    agrees L K x y zero hL hK i h = absurd (omega arith)
    agrees L K x y (suc n) hL hK i h =
        let front = agrees L K x y n (omega arith) (omega arith) in
        cases_suc i n h (front i)
        (λ e. subst (λ (z : ℕ). get_or L z start ≡ get_or K z start) (sym e) (next_agrees L K x y n front (omega arith) (omega arith)))

    no_longer : (L K : List S) → Numbers L → Numbers K → length L ≤ length K
    no_longer L K x y =
        elim (dec_lt (length K) (length L)) [
          | yes h ↦
              let q = y.all (get_or L (length K) start) (x.each (length K) h) in
              absurd (x.once q.0 (length K) q.1 h (agrees L K x y (length K) (omega arith) (omega arith) q.0 q.1 ∙ q.2))
          | no h ↦ omega arith
        ]

    -- two lists of the states as first met are one
    pub only_numbering : (L K : List S) → FirstMet S In Leads start L → FirstMet S In Leads start K → L ≡ K
    only_numbering L K x y =
        let size : length L ≡ length K = omega (arith, no_longer L K x y, no_longer K L y x) in
        ext_get_or start L K size (λ i h. agrees L K x y (length L) (omega arith) (omega arith) i h)

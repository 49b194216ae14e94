-- States numbered as first met (document 01), in words that do not mention how the numbers are found: states in order,
-- letters ascending. `In` says which states are numbered, `Leads s l u` that the step of s at the letter l leads to u.
-- Assumes nothing.
use Rattle.std.specs.Prelude.{◌≡◌, List, ℕ, ◌<◌, length, get_or}

module _ (S : Type 0) (In : S → Type 0) (Leads : S → ℕ → S → Type 0) (start : S) where
  -- state k is first met by the step of state j at the letter l: every step before that one, of a state with a lower
  -- number or of state j at a lower letter, ends in a state with a number below k
  pub record MetBy (states : List S) (k j l : ℕ) : Type 0 where
    pub known : j < length states
    pub leads : Leads (get_or states j start) l (get_or states k start)
    pub states_before : (i m n : ℕ) → i < j → n < length states → Leads (get_or states i start) m (get_or states n start) → n < k
    pub letters_before : (m n : ℕ) → m < l → n < length states → Leads (get_or states j start) m (get_or states n start) → n < k

  -- the list holds each state of In once, and no other; a state's number is its place; the start has number 0, and each
  -- other state is first met by some step
  pub record FirstMet (states : List S) : Type 0 where
    pub each : (k : ℕ) → k < length states → In (get_or states k start)
    pub all : (s : S) → In s → (k : ℕ) × (k < length states) × (get_or states k start ≡ s)
    pub once : (i j : ℕ) → i < j → j < length states → get_or states i start ≡ get_or states j start → ⊥
    pub first : get_or states 0 start ≡ start
    pub met : (k : ℕ) → 0 < k → k < length states → (j : ℕ) × (l : ℕ) × MetBy states k j l

-- Of the numbers below n that pass a test, the one with the largest score and, among those, with the largest rank.
-- Assumes nothing.
use Rattle.std.specs.Prelude.{◌≡◌, Bool, true, ◌&&◌, ◌||◌, cond, ℕ, zero, suc, ◌≤◌, ◌<◌, ltb, eqb}
use Rattle.std.proofs.Math.Option.{Option, none, some, get_or}

-- o is below n and passes the test; no other has a larger score, and none with the same score has a larger rank
pub record Leads (n : ℕ) (p : ℕ → Bool) (score rank : ℕ → ℕ) (o : ℕ) : Type 0 where
  pub low : o < n
  pub pass : p o ≡ true
  pub most : (q : ℕ) → q < n → p q ≡ true → score q ≤ score o
  pub tie : (q : ℕ) → q < n → p q ≡ true → score q ≡ score o → rank q ≤ rank o

-- a goes before b: its score is larger, or equal with a larger rank
unfoldable pub before : (ℕ → ℕ) → (ℕ → ℕ) → ℕ → ℕ → Bool
before score rank a b = ltb (score b) (score a) || (eqb (score b) (score a) && ltb (rank b) (rank a))

-- the new candidate a against the one found so far
unfoldable pub against : (ℕ → ℕ) → (ℕ → ℕ) → ℕ → Option ℕ → ℕ
against score rank a none = a
against score rank a (some b) = cond (before score rank a b) a b

-- the one that leads, found by trying 0, 1, ..
unfoldable pub leader : ℕ → (ℕ → Bool) → (ℕ → ℕ) → (ℕ → ℕ) → Option ℕ
leader zero p score rank = none
leader (suc n) p score rank = cond (p n) (some (against score rank n (leader n p score rank))) (leader n p score rank)

-- the same, or 0 where no number passes
unfoldable pub choose : ℕ → (ℕ → Bool) → (ℕ → ℕ) → (ℕ → ℕ) → ℕ
choose n p score rank = get_or (leader n p score rank) 0

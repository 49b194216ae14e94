-- Histories: the steps taken so far, the latest first, and where they lead.
-- Assumes nothing.
use Rattle.std.specs.Prelude.{List, [], ◌∷◌, ℕ, ◌<◌}

-- an input and the output that answered it
pub record Step : Type 0 where
  pub input : ℕ
  pub output : ℕ

-- where a history leads from the start
abbrev pub reached : (S : Type 0) → (S → ℕ → ℕ → S) → S → List Step → S
reached S next start [] = start
reached S next start (x ∷ h) = next (reached S next start h) x.input x.output

-- every step of the history was permitted when it was taken, and its input is below I
abbrev pub Permitted : ℕ → (List Step → ℕ → ℕ → Type 0) → List Step → Type 0
Permitted I P [] = Unit {0}
Permitted I P (x ∷ h) = (x.input < I) × P h x.input x.output × Permitted I P h

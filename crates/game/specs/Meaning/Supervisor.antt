-- Supervisors as relations, and the maximally permissive one (document 01, demand 2).
-- Assumes nothing.
use Rattle.std.specs.Prelude.{◌≡◌, Bool, true, List, ℕ, ◌<◌}
use Rattle.game.specs.Meaning.History.{Step, reached, Permitted}
use Rattle.game.specs.Meaning.Survival.{Allowed}

module _ (S : Type 0) (I O : ℕ) (step : S → ℕ → ℕ → S) (ok : S → ℕ → ℕ → Bool) (start : S) where
  -- a supervisor is any relation on histories, inputs and outputs that, at every history that it permits, permits some
  -- output for each input, and only outputs whose step is unbroken
  pub record Supervises (P : List Step → ℕ → ℕ → Type 0) : Type 0 where
    pub answers : (h : List Step) → Permitted I P h → (i : ℕ) → i < I → (o : ℕ) × P h i o
    pub safe : (h : List Step) → Permitted I P h → (i o : ℕ) → i < I → P h i o
        → (o < O) × (ok (reached S step start h) i o ≡ true)

  -- the allowed outputs, as such a relation
  abbrev pub Permissive : List Step → ℕ → ℕ → Type 0
  Permissive h i o = Allowed S I O step ok (reached S step start h) i o

  -- the allowed outputs are a supervisor's, and every supervisor permits only allowed outputs
  pub record MaximallyPermissive : Type 1 where
    pub supervises : Supervises Permissive
    pub greatest : (P : List Step → ℕ → ℕ → Type 0) → Supervises P
        → (h : List Step) → Permitted I P h → (i o : ℕ) → i < I → P h i o → Permissive h i o

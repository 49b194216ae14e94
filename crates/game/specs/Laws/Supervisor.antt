-- The allowed outputs are the maximally permissive supervisor.
-- Assumes nothing.
use Rattle.std.specs.Prelude.{◌≡◌, Bool, true, List, [], ◌∷◌, ℕ, zero, suc, ◌<◌}
use Rattle.game.specs.Meaning.History.{Step, reached, Permitted}
use Rattle.game.specs.Meaning.Survival.{Allowed, Survives}
use Rattle.game.specs.Model.Moves.{Lasts}
use Rattle.game.specs.Laws.Survival.{survives_lasts}
use Rattle.game.specs.Model.Rounds.{Quiet, Good}
use Rattle.game.specs.Laws.Rounds.{kept_iff, allowed_iff, live}
use Rattle.game.specs.Meaning.Supervisor as meaningSupervisor

module _ (S : Type 0) (I O : ℕ) (step : S → ℕ → ℕ → S) (ok : S → ℕ → ℕ → Bool) (start : S) where
  abbrev Supervises : (P : List Step → ℕ → ℕ → Type 0) → Type 0
  Supervises = meaningSupervisor.Supervises S I O step ok start

  abbrev Permissive : List Step → ℕ → ℕ → Type 0
  Permissive = meaningSupervisor.Permissive S I O step ok start

  abbrev MaximallyPermissive : Type 1
  MaximallyPermissive = meaningSupervisor.MaximallyPermissive S I O step ok start

  -- ---- every supervisor permits only allowed outputs

  -- where a supervisor is followed, any number of inputs is survived
  supervised_lasts : (P : List Step → ℕ → ℕ → Type 0) → Supervises P → (n : ℕ) (h : List Step) → Permitted I P h
      → Lasts S I O step ok n (reached S step start h)
  supervised_lasts P u zero h p = tt
  supervised_lasts P u (suc n) h p = λ i k.
      let x = u.answers h p i k in
      let y = u.safe h p i x.0 k x.1 in
      (x.0, y.0, y.1, supervised_lasts P u n (record { input = i; output = x.0 } ∷ h) (k, x.1, p))

  -- it needs no hypothesis on the game
  pub permissive_greatest : (P : List Step → ℕ → ℕ → Type 0) → Supervises P
      → (h : List Step) → Permitted I P h → (i o : ℕ) → i < I → P h i o → Permissive h i o
  permissive_greatest P u h p i o k q =
      let y = u.safe h p i o k q in
      record {
        output = y.0;
        unbroken = y.1;
        survives = λ n. (survives_lasts S I O step ok n _).1
            (supervised_lasts P u n (record { input = i; output = o } ∷ h) (k, q, p));
      }

  -- ---- the allowed outputs are a supervisor's, where the start can be survived for ever and some round is quiet

  module _
      (In : S → Type 0)
      (closed : (s : S) (i o : ℕ) → In s → i < I → o < O → ok s i o ≡ true → In (step s i o))
      (r : ℕ) (quiet : Quiet S I O step ok In r)
      (begins : In start) (survives : (n : ℕ) → Survives S I O step ok n start)
    where
      -- a history of allowed outputs leads to a good state
      pub permitted_good : (h : List Step) → Permitted I Permissive h → Good S I O step ok In r (reached S step start h)
      permitted_good [] p = record { inside = begins; kept = (kept_iff S I O step ok In closed r quiet start begins).1 survives }
      permitted_good (x ∷ h) p =
          let s : S = reached S step start h in
          let a : Allowed S I O step ok s x.input x.output = p.1 in
          let g : In (step s x.input x.output) =
          closed s x.input x.output (permitted_good h p.2).inside p.0 a.output a.unbroken in
          record { inside = g; kept = (kept_iff S I O step ok In closed r quiet _ g).1 a.survives }

      -- the allowed outputs are those of a supervisor
      pub permissive_supervises : Supervises Permissive
      permissive_supervises =
          record {
            answers = λ h p i k.
                let g = permitted_good h p in
                let x = live S I O step ok In closed r quiet _ i g k in
                (x.0, (allowed_iff S I O step ok In closed r quiet _ i x.0 g.inside k x.1).0 x.2);
            safe = λ h p i o k a. (a.output, a.unbroken);
          }

      -- the allowed outputs are the maximally permissive supervisor
      pub maximally_permissive : MaximallyPermissive
      maximally_permissive = record { supervises = permissive_supervises; greatest = permissive_greatest }

-- The guard of a game: of what may be given after a quiet round r, the choice over the horizon H is the run book's move.
-- Assumes nothing.
use Rattle.std.specs.Prelude.{◌≡◌, ◌↔◌, Bool, true, ℕ, ◌<◌}
use Rattle.std.proofs.Common.{sym, subst}
use Rattle.game.specs.Meaning.Survival.{Survives, Allowed}
use Rattle.game.specs.Meaning.Plans.{Move}
use Rattle.game.specs.Model.Rounds.{Quiet, Good, may}
use Rattle.game.specs.Laws.Rounds.{kept_iff, allowed_iff, live, stays}
use Rattle.game.specs.Model.Value.{choice}
use Rattle.game.specs.Laws.Value.{choice_good, choice_move, move_only}
use Rattle.game.specs.Meaning.Reachable.{Reachable}
use Rattle.game.specs.Laws.Reachable.{reachable_closed}

module _
    (S : Type 0) (I O : ℕ) (step : S → ℕ → ℕ → S) (ok : S → ℕ → ℕ → Bool) (start : S)
    (r : ℕ) (reward : S → ℕ → ℕ → ℕ) (rank : ℕ → ℕ) (H : ℕ)
  where
    abbrev In : S → Type 0
    In = Reachable S I O step ok start

    abbrev test : S → ℕ → ℕ → Bool
    test = may S I O step ok r

    -- the states that unbroken steps reach and that are kept after r rounds
    abbrev pub Winning : S → Type 0
    Winning = Good S I O step ok In r

    -- the guard's output
    abbrev pub pick : S → ℕ → ℕ
    pick = choice S I O step test reward rank H

    -- what the run book asks of an output
    abbrev pub BookMove : (ℕ → ℕ → Type 0) → S → ℕ → ℕ → Type 0
    BookMove Higher = Move S I O step (Allowed S I O step ok) reward Higher H

    module _ (quiet : Quiet S I O step ok In r) (survives : (n : ℕ) → Survives S I O step ok n start) where
      closed : (s : S) (i o : ℕ) → In s → i < I → o < O → ok s i o ≡ true → In (step s i o)
      closed = reachable_closed S I O step ok start

      lives : (s : S) (i : ℕ) → Winning s → i < I → (o : ℕ) × (o < O) × (test s i o ≡ true)
      lives = live S I O step ok In closed r quiet

      remains : (s : S) (i o : ℕ) → Winning s → i < I → o < O → test s i o ≡ true → Winning (step s i o)
      remains = stays S I O step ok In closed r quiet

      decides : (s : S) (i o : ℕ) → Winning s → i < I → o < O → (test s i o ≡ true) ↔ Allowed S I O step ok s i o
      decides s i o g = allowed_iff S I O step ok In closed r quiet s i o g.inside

      -- the start is winning
      pub start_winning : Winning start
      start_winning =
          record {
            inside = Reachable.begin;
            kept = (kept_iff S I O step ok In closed r quiet start Reachable.begin).1 survives;
          }

      module _
          (Higher : ℕ → ℕ → Type 0) (follows : (o q : ℕ) → o < O → q < O → (rank q < rank o) ↔ Higher o q)
          (injective : (a b : ℕ) → a < O → b < O → rank a ≡ rank b → a ≡ b)
        where
          -- in a winning state the chosen output is the run book's move
          pub pick_move : (s : S) (i : ℕ) → Winning s → i < I → BookMove Higher s i (pick s i)
          pick_move s i g h =
              choice_move S I O step test reward (Allowed S I O step ok) Winning lives remains decides rank H s i g h Higher follows

          -- and there is no other
          pub pick_only : (s : S) (i o : ℕ) → Winning s → i < I → BookMove Higher s i o → o ≡ pick s i
          pick_only s i o g h m =
              move_only S I O step test reward (Allowed S I O step ok) Winning lives remains decides rank H s i g h Higher follows
              injective o m

          -- it leads to a winning state
          pub move_winning : (s : S) (i o : ℕ) → Winning s → i < I → BookMove Higher s i o → Winning (step s i o)
          move_winning s i o g h m =
              subst (λ (q : ℕ). Winning (step s i q)) (sym (pick_only s i o g h m))
              (choice_good S I O step test reward (Allowed S I O step ok) Winning lives remains decides rank H s i g h)

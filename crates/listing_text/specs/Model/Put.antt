-- What a writer of text does.
-- Assumes nothing.
use Rattle.std.specs.Prelude.{◌≡◌, List, ℕ, ◌+◌, length}
use Rattle.std.proofs.lemmas.List.Edits.{sets}

-- words put at a place, and the place after them
pub record Put (before : List ℕ) (at : ℕ) (words : List ℕ) (place : ℕ) (after : List ℕ) : Type 0 where
  pub place_is : place ≡ at + length words
  pub bytes : after ≡ sets before at words

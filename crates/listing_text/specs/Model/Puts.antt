-- What a writer of text does.
-- Assumes nothing.
use Rattle.std.specs.Prelude.{◌≡◌, List, ℕ, ◌+◌, ◌≤◌, length}
use Rattle.listing_text.specs.Model.Put.{Put}
use Rattle.listing_text.specs.declared.writer.Writer.{Writer}

-- there is room for words
abbrev pub Fits : Writer → List ℕ → Type 0
Fits w words = w.at + length words ≤ length w.text.now

-- words put at its place in the same memory, and its place after them
pub record Puts (before : Writer) (words : List ℕ) (after : Writer) : Type 0 where
  pub put : Put before.text.now before.at words after.at after.text.now
  pub same_reference : after.text.ghost_name ≡ before.text.ghost_name

-- Work memory: slices in turn, each with the bytes of an element and the length that is asked for (document 01, ground 10).
-- Assumes nothing.
use Rattle.std.specs.Prelude.{Bool, true, false, ◌&&◌, List, [], ◌∷◌, ℕ, ◌+◌, ◌*◌, leb}

pub record Slice : Type 0 where
  pub width : ℕ
  pub asked : ℕ

-- slices of one, two and eight bytes an element
abbrev pub bytes : ℕ → Slice
bytes n = record { width = 1; asked = n }

abbrev pub pairs : ℕ → Slice
pairs n = record { width = 2; asked = n }

abbrev pub eights : ℕ → Slice
eights n = record { width = 8; asked = n }

-- every slice that was lent is as long as is asked for; `lent` are their lengths
unfoldable pub long_enough : List Slice → List ℕ → Bool
long_enough [] lent = true
long_enough (s ∷ work) [] = false
long_enough (s ∷ work) (n ∷ lent) = leb s.asked n && long_enough work lent

-- the bytes that are asked for
unfoldable pub asked_bytes : List Slice → ℕ
asked_bytes [] = 0
asked_bytes (s ∷ work) = s.width * s.asked + asked_bytes work

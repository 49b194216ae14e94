-- The bytes of a supervisor table (document 01): a head of kind 19, then a record of kind 18 for each product state.
-- Assumes nothing.
use Rattle.std.specs.Prelude.{List, ◌∷◌, ◌++◌, ℕ, ◌+◌, ◌^◌}
use Rattle.records.specs.Meaning.Lists.{tab, cat}
use Rattle.records.specs.Meaning.Numbers.{u16_bytes}
use Rattle.records.specs.Meaning.Records.{header}

-- whether the state is kept, then a mask for each input
unfoldable pub mask_row : ℕ → ℕ → (ℕ → ℕ) → List ℕ
mask_row inputs kept mask = header (1 + inputs) 18 ++ (kept ∷ tab inputs mask)

-- a whole supervisor table
unfoldable pub mask_table : ℕ → ℕ → ℕ → ℕ → (ℕ → ℕ) → (ℕ → ℕ → ℕ) → List ℕ
mask_table mode lines outputs count kept mask =
    (header 5 19 ++ (mode ∷ lines ∷ outputs ∷ u16_bytes count)) ++ cat count (λ k. mask_row (2 ^ lines) (kept k) (mask k))

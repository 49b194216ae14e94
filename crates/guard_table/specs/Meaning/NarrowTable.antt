-- The guard table as document 01 has it, before there were wide rows: kind 17, an entry of two bytes. What is promised of guards with
-- up to 256 states is promised over these words, which stand by themselves.
-- Assumes nothing.
use Rattle.std.specs.Prelude.{List, [], ◌∷◌, ◌++◌, ℕ, ◌*◌, ◌^◌}
use Rattle.records.specs.Meaning.Lists.{cat}
use Rattle.records.specs.Meaning.Numbers.{u16_bytes}
use Rattle.records.specs.Meaning.Records.{header}

-- the row of a state: an output and a next state for each input
unfoldable pub narrow_row : ℕ → (ℕ → ℕ) → (ℕ → ℕ) → List ℕ
narrow_row inputs out next = header (2 * 2 ^ inputs) 17 ++ cat (2 ^ inputs) (λ i. out i ∷ next i ∷ [])

-- the head, and the row of each state
unfoldable pub narrow_table : ℕ → ℕ → ℕ → ℕ → ℕ → (ℕ → ℕ → ℕ) → (ℕ → ℕ → ℕ) → List ℕ
narrow_table mode inputs outputs horizon count out next =
    (header 6 16 ++ (mode ∷ inputs ∷ outputs ∷ horizon ∷ u16_bytes count)) ++ cat count (λ k. narrow_row inputs (out k) (next k))

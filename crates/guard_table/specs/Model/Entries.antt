-- The entries of a row as they are tested: at every input that there can be.
-- Assumes nothing.
use Rattle.std.specs.Prelude.{Bool, ◌||◌, List, ℕ, ◌^◌, leb}
use Rattle.guard_table.specs.Meaning.GuardTable.{output_in, next_in}
use Rattle.guard_table.specs.Meaning.Loadable.{entry_ok}

-- the entry is in range, or there is no such input
unfoldable pub entry_passes : List ℕ → ℕ → ℕ → ℕ → ℕ → ℕ → Bool
entry_passes t inputs outputs count place input =
    leb (2 ^ inputs) input || entry_ok (output_in t inputs place input) (next_in t inputs place input) outputs count

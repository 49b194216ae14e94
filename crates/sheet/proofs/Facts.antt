-- What the test of a monitor's body tells.
-- Assumes nothing.
use mathlib.Core.Path.{◌≡◌}
use mathlib.Core.Bool.{true}
use mathlib.Core.List.{List}
use Prim.Native.Nat.{ℕ, ◌≤◌}
use borrow.Author.Tests.{leb-true}
use Rattle.records.specs.Laws.Tests.{and_left}
use Rattle.sheet_fields.specs.Meaning.Monitor.{monitor_ok}

-- a monitor's body holds its four numbers
pub monitor_least : (s : List ℕ) (mode site outputs start size : ℕ) → monitor_ok s mode site outputs start size ≡ true → 4 ≤ size
unfolding monitor_ok
monitor_least s mode site outputs start size e = leb-true 4 size (search and_left)

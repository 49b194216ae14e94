-- What the rank of an output promises: the formula, and document 02's claims on ranks, for every number of lines.
-- Assumes nothing.
use Rattle.std.specs.Prelude.{◌≡◌, ◌↔◌, List, ℕ, ◌^◌, ◌≤◌, ◌<◌, length, get_or}
use Rattle.records.specs.Meaning.Lists.{tab}
use Rattle.values.specs.Meaning.Order.{Higher, NamesEach}
use Rattle.values.specs.Model.Rank.{rank_by, rank}

-- document 02, N4: no two outputs share a rank, and the ranks follow the sheet's order
pub record RanksFollow (rank : List ℕ → ℕ → ℕ) : Type 0 where
  -- of every list that names each of its lines once, and all outputs that these lines make
  pub apart : (literals : List ℕ) → NamesEach literals → (o q : ℕ) → o < 2 ^ length literals → q < 2 ^ length literals
      → rank literals o ≡ rank literals q → o ≡ q
  -- such a list there is for each number of lines up to 8
  pub named : (n : ℕ) → n ≤ 8 → NamesEach (tab n (λ j. j))
  -- of every list, and all outputs
  pub order : (literals : List ℕ) (o q : ℕ) → (rank literals q < rank literals o) ↔ Higher literals o q

-- r is the rank of output o by the first `count` literals
pub record Ranked (literals : List ℕ) (count o r : ℕ) : Type 0 where
  pub found : r ≡ rank_by literals count o
  -- the rank by the list of these alone
  pub listed : r ≡ rank (tab count (λ j. get_or literals j 0)) o
  pub follows : RanksFollow rank

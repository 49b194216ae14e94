-- What a cursor promises of what it finds.
-- Assumes nothing.
use Rattle.std.specs.Prelude.{◌≡◌, cond, List, ℕ}
use Rattle.records.specs.Meaning.Records.{Found, read_at, past, is_cut, found_number}

-- what a cursor promises of what it finds, for every slice and every offset
pub record Finds (s : List ℕ) (at next : ℕ) (r : Found) : Type 0 where
  -- the answer is the model's
  pub whole : r ≡ read_at s at
  -- refused by document 01's number
  pub number : found_number r ≡ cond (is_cut s at) 1 0
  -- and where it stands then
  pub stands : next ≡ past r at

-- The rank of an output: larger ones are preferred.
-- Assumes nothing.
use Rattle.std.specs.Prelude.{cond, List, ℕ, zero, suc, ◌+◌, ◌*◌, length, get_or}
use Rattle.values.specs.Meaning.Order.{literal_holds}

-- a literal's digit: 1 if it holds of the output, 0 if not
abbrev pub literal_digit : ℕ → ℕ → ℕ
literal_digit literal o = cond (literal_holds literal o) 1 0

-- the rank by the first n literals: their digits read as a binary number, the first literal's highest
unfoldable pub rank_by : List ℕ → ℕ → ℕ → ℕ
rank_by literals zero o = 0
rank_by literals (suc n) o = 2 * rank_by literals n o + literal_digit (get_or literals n 0) o

-- a larger rank is preferred
unfoldable pub rank : List ℕ → ℕ → ℕ
rank literals o = rank_by literals (length literals) o

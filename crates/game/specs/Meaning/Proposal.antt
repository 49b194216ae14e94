-- What a shield's input proposes, and when an output deviates from it (document 01).
-- An input is the guard's: in mode 1 the letter of the site lines + 2^site × proposal, where `site` says how many lines those are.
-- Assumes nothing.
use Rattle.std.specs.Prelude.{Bool, not, ◌&&◌, ℕ, ◌/◌, ◌^◌, eqb}

-- what the maker's program proposes: the input's lines above the site's
unfoldable pub proposal : ℕ → ℕ → ℕ
proposal site input = input / 2 ^ site

-- output and proposal differ in some line
unfoldable pub differs : ℕ → ℕ → ℕ → Bool
differs site input output = not (eqb output (proposal site input))

-- in mode 1, the output is not the proposal
unfoldable pub deviates : ℕ → ℕ → ℕ → ℕ → Bool
deviates mode site input output = eqb mode 1 && differs site input output

-- The text of a listing (document 01, 'Notebook sheets'), as a list of ASCII codes.
-- Assumes nothing.
use Rattle.std.specs.Prelude.{true, false, List, [], ◌∷◌, ◌++◌, ℕ, zero, suc, ◌+◌, ◌/◌, ◌%◌, ◌^◌, ltb}
use Rattle.records.specs.Meaning.Lists.{cat}
use Rattle.guard_table.specs.Meaning.GuardTable.{head_inputs, head_outputs, head_horizon, head_count, output_in, next_in}

-- ---- numbers

-- the digits of a number below 10 ^ fuel, the most significant first
unfoldable pub decimal_from : ℕ → ℕ → List ℕ
decimal_from zero n = []
decimal_from (suc fuel) n =
    elim (ltb n 10) [ true ↦ (48 + n) ∷ [] | false ↦ decimal_from fuel (n / 10) ++ ((48 + (n % 10)) ∷ []) ]

-- a number in decimal, with no leading zero
unfoldable pub decimal : ℕ → List ℕ
decimal n = decimal_from (suc n) n

-- ---- words

-- 'states '
abbrev pub states_word : List ℕ
states_word = 115 ∷ 116 ∷ 97 ∷ 116 ∷ 101 ∷ 115 ∷ 32 ∷ []

-- ' inputs '
abbrev pub inputs_word : List ℕ
inputs_word = 32 ∷ 105 ∷ 110 ∷ 112 ∷ 117 ∷ 116 ∷ 115 ∷ 32 ∷ []

-- ' outputs '
abbrev pub outputs_word : List ℕ
outputs_word = 32 ∷ 111 ∷ 117 ∷ 116 ∷ 112 ∷ 117 ∷ 116 ∷ 115 ∷ 32 ∷ []

-- ' horizon '
abbrev pub horizon_word : List ℕ
horizon_word = 32 ∷ 104 ∷ 111 ∷ 114 ∷ 105 ∷ 122 ∷ 111 ∷ 110 ∷ 32 ∷ []

-- 'refused '
abbrev pub refused_word : List ℕ
refused_word = 114 ∷ 101 ∷ 102 ∷ 117 ∷ 115 ∷ 101 ∷ 100 ∷ 32 ∷ []

-- 'too long', and the end of the line
abbrev pub too_long_text : List ℕ
too_long_text = 116 ∷ 111 ∷ 111 ∷ 32 ∷ 108 ∷ 111 ∷ 110 ∷ 103 ∷ 10 ∷ []

-- the end of a line
abbrev pub line_end : List ℕ
line_end = 10 ∷ []

-- ---- lines

-- a word, and a number after it
unfoldable pub labelled : List ℕ → ℕ → List ℕ
labelled word n = word ++ decimal n

unfoldable pub head_line : ℕ → ℕ → ℕ → ℕ → List ℕ
head_line count inputs outputs horizon =
    labelled states_word count
    ++ (labelled inputs_word inputs ++ (labelled outputs_word outputs ++ (labelled horizon_word horizon ++ line_end)))

-- an entry, ' output>next'
unfoldable pub entry_text : ℕ → ℕ → List ℕ
entry_text out next = 32 ∷ (decimal out ++ (62 ∷ decimal next))

-- the line of a state k whose entry at input i is `out i` and `next i`: 'k:', then the entries
unfoldable pub row_text : ℕ → (ℕ → ℕ) → (ℕ → ℕ) → ℕ → List ℕ
row_text inputs out next k = decimal k ++ (58 ∷ (cat (2 ^ inputs) (λ i. entry_text (out i) (next i)) ++ line_end))

-- the listing of a guard's entries
unfoldable pub listing : ℕ → ℕ → ℕ → ℕ → (ℕ → ℕ → ℕ) → (ℕ → ℕ → ℕ) → List ℕ
listing count inputs outputs horizon out next =
    head_line count inputs outputs horizon ++ cat count (λ k. row_text inputs (out k) (next k) k)

-- what is said of a sheet that is refused
unfoldable pub refused_text : ℕ → List ℕ
refused_text number = labelled refused_word number ++ line_end

-- ---- the listing of a guard table's bytes

-- an entry
unfoldable pub entry_of : List ℕ → ℕ → ℕ → ℕ → List ℕ
entry_of t inputs k i = entry_text (output_in t inputs k i) (next_in t inputs k i)

-- the line of a state
unfoldable pub row_of : List ℕ → ℕ → ℕ → List ℕ
row_of t inputs k = row_text inputs (output_in t inputs k) (next_in t inputs k) k

unfoldable pub listing_of : List ℕ → List ℕ
listing_of t =
    listing (head_count t) (head_inputs t) (head_outputs t) (head_horizon t) (output_in t (head_inputs t)) (next_in t (head_inputs t))

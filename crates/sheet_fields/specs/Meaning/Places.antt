-- Where the fields of a sheet's records stand, by where a record's body begins (document 01, 'Sheet and tables').
-- Assumes nothing.
use Rattle.std.specs.Prelude.{List, ℕ, ◌+◌, get_or}

-- ---- a head: five numbers, then a literal for each output line

abbrev pub head_numbers : ℕ
head_numbers = 5

abbrev pub mode_at : List ℕ → ℕ → ℕ
mode_at s start = get_or s start 0

-- lines in: in mode 1 the site's
abbrev pub site_at : List ℕ → ℕ → ℕ
site_at s start = get_or s (start + 1) 0

-- lines out
abbrev pub outputs_at : List ℕ → ℕ → ℕ
outputs_at s start = get_or s (start + 2) 0

abbrev pub horizon_at : List ℕ → ℕ → ℕ
horizon_at s start = get_or s (start + 3) 0

-- the match weight
abbrev pub matching_at : List ℕ → ℕ → ℕ
matching_at s start = get_or s (start + 4) 0

-- where the literals begin
abbrev pub literals_from : ℕ → ℕ
literals_from start = start + head_numbers

-- ---- a monitor: four numbers, then an accept byte for each state, then the rows of next states

abbrev pub monitor_numbers : ℕ
monitor_numbers = 4

abbrev pub role_at : List ℕ → ℕ → ℕ
role_at s start = get_or s start 0

abbrev pub weight_at : List ℕ → ℕ → ℕ
weight_at s start = get_or s (start + 1) 0

abbrev pub states_at : List ℕ → ℕ → ℕ
states_at s start = get_or s (start + 2) 0

-- the monitor's first state
abbrev pub first_at : List ℕ → ℕ → ℕ
first_at s start = get_or s (start + 3) 0

-- where the accept bytes and the rows begin
abbrev pub accept_from : ℕ → ℕ
accept_from start = start + monitor_numbers

abbrev pub rows_from : List ℕ → ℕ → ℕ
rows_from s start = accept_from start + states_at s start

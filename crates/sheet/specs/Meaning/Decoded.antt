-- A decoded sheet, its bounds in document 01's words, and its bytes. This is what a sheet means; nothing here speaks of
-- offsets or of the order in which a reader looks.
-- Assumes nothing.
use Rattle.std.specs.Prelude.{◌≡◌, List, [], ◌∷◌, ◌++◌, ℕ, ◌+◌, ◌*◌, ◌%◌, ◌≤◌, ◌<◌, length, get_or}
use Rattle.records.specs.Meaning.Lists.{cat}
use Rattle.records.specs.Meaning.Records.{header}
use Rattle.records.specs.Meaning.Limits.{max_inputs, max_outputs, max_lines, max_horizon, max_monitors, max_monitor_states, literal_end}
use Rattle.sheet_fields.specs.Meaning.Places.{head_numbers, monitor_numbers}
unfoldable pub use Rattle.sheet_fields.specs.Meaning.Lines.{guard_lines, letters_read}

-- a monitor: an automaton whose states are the indices of `accept`; `rows` has its next state for each state and letter
pub record Automaton : Type 0 where
  pub role : ℕ
  pub weight : ℕ
  pub start : ℕ
  pub accept : List ℕ
  pub rows : List (List ℕ)

-- a sheet; `site` are the lines that the head gives as lines in, `matching` is the match weight
pub record Decoded : Type 0 where
  pub mode : ℕ
  pub site : ℕ
  pub outputs : ℕ
  pub horizon : ℕ
  pub matching : ℕ
  pub literals : List ℕ
  pub monitors : List Automaton

-- what stands where no monitor is
abbrev pub no_automaton : Automaton
no_automaton = record { role = 0; weight = 0; start = 0; accept = []; rows = [] }

-- monitor j of a sheet
abbrev pub monitor_of : Decoded → ℕ → Automaton
monitor_of d j = get_or d.monitors j no_automaton

-- the guard's input lines: in mode 1 the proposal's lines come on top of the site's
abbrev pub input_lines : Decoded → ℕ
input_lines d = guard_lines d.mode d.site d.outputs

-- the letters that a monitor reads
abbrev pub letters : Decoded → Automaton → ℕ
letters d a = letters_read a.role d.site d.outputs

-- ---- bounds

-- the head, its horizon aside (ground 3)
pub record HeadOk (d : Decoded) : Type 0 where
  pub mode : d.mode ≤ 1
  pub site : d.site ≤ max_inputs
  pub outputs_least : 1 ≤ d.outputs
  pub outputs_most : d.outputs ≤ max_outputs
  pub inputs : input_lines d ≤ max_inputs
  pub lines : input_lines d + d.outputs ≤ max_lines
  pub matching_byte : d.matching < 256
  pub matching : d.mode ≡ 0 → d.matching ≡ 0
  pub literals : length d.literals ≡ d.outputs
  -- the line's number, 8 more if off is preferred
  pub literal_byte : (j : ℕ) → j < d.outputs → get_or d.literals j 0 < literal_end
  pub literal_line : (j : ℕ) → j < d.outputs → get_or d.literals j 0 % 8 < d.outputs
  -- each line once
  pub literal_once : (i j : ℕ) → i < j → j < d.outputs → get_or d.literals i 0 % 8 ≡ get_or d.literals j 0 % 8 → ⊥

-- the horizon (ground 6)
pub record HorizonOk (d : Decoded) : Type 0 where
  pub most : d.horizon ≤ max_horizon
  pub product_most : input_lines d * d.horizon ≤ max_horizon

-- one monitor (ground 4)
pub record MonitorOk (d : Decoded) (a : Automaton) : Type 0 where
  pub role : a.role ≤ 2
  -- deviation limits in mode 1 only
  pub limit : a.role ≡ 2 → d.mode ≡ 1
  -- 1 to 255 for a soft monitor, else 0
  pub weight_byte : a.weight < 256
  pub soft : a.role ≡ 1 → 1 ≤ a.weight
  pub unweighted : (a.role ≡ 1 → ⊥) → a.weight ≡ 0
  pub states_least : 1 ≤ length a.accept
  pub states_most : length a.accept ≤ max_monitor_states
  pub start : a.start < length a.accept
  pub accept : (q : ℕ) → q < length a.accept → get_or a.accept q 0 ≤ 1
  pub rows : length a.rows ≡ length a.accept
  pub row : (q : ℕ) → q < length a.accept → length (get_or a.rows q []) ≡ letters d a
  pub next : (q l : ℕ) → q < length a.accept → l < letters d a → get_or (get_or a.rows q []) l 0 < length a.accept

-- a sheet in bounds
pub record SheetOk (d : Decoded) : Type 0 where
  pub head : HeadOk d
  pub horizon : HorizonOk d
  pub count : length d.monitors ≤ max_monitors
  pub monitor : (j : ℕ) → j < length d.monitors → MonitorOk d (monitor_of d j)

-- ---- bytes

unfoldable pub encode_head : Decoded → List ℕ
encode_head d =
    header (head_numbers + d.outputs) 1
    ++ ((d.mode ∷ d.site ∷ d.outputs ∷ d.horizon ∷ d.matching ∷ []) ++ d.literals)

unfoldable pub encode_monitor : Decoded → Automaton → List ℕ
encode_monitor d a =
    header (monitor_numbers + length a.accept + length a.accept * letters d a) 2
    ++ ((a.role ∷ a.weight ∷ length a.accept ∷ a.start ∷ [])
    ++ (a.accept ++ cat (length a.rows) (λ q. get_or a.rows q [])))

-- the sheet's bytes
unfoldable pub encode : Decoded → List ℕ
encode d = encode_head d ++ cat (length d.monitors) (λ j. encode_monitor d (monitor_of d j))

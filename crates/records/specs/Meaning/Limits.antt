-- The sizes that the formats share, each said once, and the bounds on lines and horizon (document 01, 'Sheet and tables').
-- Assumes nothing.
use Rattle.std.specs.Prelude.{Bool, ◌&&◌, ◌||◌, ℕ, ◌+◌, ◌*◌, ◌^◌, leb, eqb}

-- product states, and so the states of a table
abbrev pub max_states : ℕ
max_states = 512

-- steps of a run
abbrev pub max_steps : ℕ
max_steps = 1_000_000

-- input lines, output lines, and both together
abbrev pub max_inputs : ℕ
max_inputs = 4

abbrev pub max_outputs : ℕ
max_outputs = 3

abbrev pub max_lines : ℕ
max_lines = 6

-- so many inputs, outputs and letters they make
abbrev pub max_ins : ℕ
max_ins = 2 ^ max_inputs

abbrev pub max_outs : ℕ
max_outs = 2 ^ max_outputs

abbrev pub max_letters : ℕ
max_letters = 2 ^ max_lines

-- the horizon; inputs × horizon too
abbrev pub max_horizon : ℕ
max_horizon = 24

-- monitors of a sheet, and the states of one
abbrev pub max_monitors : ℕ
max_monitors = 6

abbrev pub max_monitor_states : ℕ
max_monitor_states = 32

-- a literal is below this: a line, 8 more if off is preferred
abbrev pub literal_end : ℕ
literal_end = 16

-- the bounds on the mode, the guard's input lines and its output lines
unfoldable pub lines_ok : ℕ → ℕ → ℕ → Bool
lines_ok mode inputs outputs =
    leb mode 1
    && (leb inputs max_inputs
    && (leb 1 outputs && (leb outputs max_outputs && (leb (inputs + outputs) max_lines && (eqb mode 0 || leb outputs inputs)))))

-- the bounds on the horizon H
unfoldable pub horizon_ok : ℕ → ℕ → Bool
horizon_ok inputs horizon = leb horizon max_horizon && leb (inputs * horizon) max_horizon

-- A monitor's fields in bounds (document 01, ground 4), by its bytes.
-- Assumes nothing.
use Rattle.std.specs.Prelude.{Bool, false, cond, not, ◌&&◌, List, ℕ, ◌+◌, ◌-◌, ◌*◌, ltb, leb, eqb, get_or}
use Rattle.records.specs.Meaning.Bounded.{all}
use Rattle.records.specs.Meaning.Limits.{max_monitor_states}
use Rattle.sheet_fields.specs.Meaning.Places.{monitor_numbers, role_at, weight_at, states_at, first_at, accept_from, rows_from}
use Rattle.sheet_fields.specs.Meaning.Lines.{letters_read}

-- role and weight: hard with none, soft with one, a limit in mode 1 with none
unfoldable pub role_ok : ℕ → ℕ → ℕ → Bool
role_ok mode role weight =
    cond (eqb role 0) (eqb weight 0)
    (cond (eqb role 1) (not (eqb weight 0)) (cond (eqb role 2) (eqb mode 1 && eqb weight 0) false))

-- states and start, and the size of a body with so many letters
unfoldable pub states_ok : ℕ → ℕ → ℕ → ℕ → Bool
states_ok states start letters size =
    leb 1 states && (leb states max_monitor_states && (ltb start states && eqb size (monitor_numbers + states + states * letters)))

-- each of n bytes is at most `most`
unfoldable pub bytes_most : List ℕ → ℕ → ℕ → ℕ → Bool
bytes_most s at n most = all n (λ k. leb (get_or s (at + k) 0) most)

-- a monitor's body under a head with this mode and these lines: the tables only where the numbers are in order
unfoldable pub monitor_ok : List ℕ → ℕ → ℕ → ℕ → ℕ → ℕ → Bool
monitor_ok s mode site outputs start size =
    leb monitor_numbers size
    && (role_ok mode (role_at s start) (weight_at s start)
    && (states_ok (states_at s start) (first_at s start) (letters_read (role_at s start) site outputs) size
    -- the accept bytes are 0 or 1
    && (bytes_most s (accept_from start) (states_at s start) 1
    -- a next state for each state and letter
    && bytes_most s (rows_from s start) (states_at s start * letters_read (role_at s start) site outputs) (states_at s start - 1))))

-- What the tests of a head's and of a monitor's fields tell of their numbers.
-- Assumes nothing.
use Rattle.std.specs.Prelude.{◌≡◌, Bool, true, false, cond, List, ℕ, ◌+◌, ◌*◌, ◌≤◌, ◌<◌, eqb}
use Rattle.std.proofs.Common.{arith, leb-true, ltb-true, eqb-true}
use Rattle.records.specs.Laws.Tests.{and_left, and_right}
use Rattle.records.specs.Meaning.Limits.{max_inputs, max_outputs, max_lines, max_monitor_states}
use Rattle.records.specs.Laws.Limits.{lines_facts}
use Rattle.sheet_fields.specs.Meaning.Places.{head_numbers, mode_at, site_at, outputs_at, matching_at, monitor_numbers}
use Rattle.sheet_fields.specs.Meaning.Lines.{guard_lines}
use Rattle.sheet_fields.specs.Meaning.Head.{site_ok, numbers_ok, head_ok}
use Rattle.sheet_fields.specs.Meaning.Monitor.{states_ok}

-- the site's lines are among the guard's inputs
pub site_le : (mode site outputs : ℕ) → site ≤ guard_lines mode site outputs
unfolding guard_lines
site_le mode site outputs = go (eqb mode 1)
  where
    go : (b : Bool) → site ≤ cond b (site + outputs) site
    go true = omega arith
    go false = omega arith

-- the numbers of a head
pub record FieldNumbers (site outputs size : ℕ) : Type 0 where
  pub site_most : site ≤ max_inputs
  pub outputs_most : outputs ≤ max_outputs
  pub lines_most : site + outputs ≤ max_lines
  pub size_is : size ≡ head_numbers + outputs

pub numbers_facts : (mode site outputs matching size : ℕ) → numbers_ok mode site outputs matching size ≡ true
    → FieldNumbers site outputs size
unfolding numbers_ok site_ok
numbers_facts mode site outputs matching size e =
    let lines = lines_facts mode (guard_lines mode site outputs) outputs (search (and_left, and_right)) in
    record {
      site_most = leb-true site max_inputs (search (and_left, and_right));
      outputs_most = lines.outputs_most;
      lines_most = omega (arith, lines.lines_most, site_le mode site outputs);
      size_is = eqb-true size (head_numbers + outputs) (search (and_left, and_right));
    }

pub head_facts : (s : List ℕ) (start size : ℕ) → head_ok s start size ≡ true
    → FieldNumbers (site_at s start) (outputs_at s start) size
unfolding head_ok
head_facts s start size e =
    numbers_facts (mode_at s start) (site_at s start) (outputs_at s start) (matching_at s start) size
    (search (and_left, and_right))

-- the numbers of a monitor
pub record States (states start letters size : ℕ) : Type 0 where
  pub states_least : 1 ≤ states
  pub states_most : states ≤ max_monitor_states
  pub start_below : start < states
  pub size_is : size ≡ monitor_numbers + states + states * letters

pub states_facts : (states start letters size : ℕ) → states_ok states start letters size ≡ true
    → States states start letters size
unfolding states_ok
states_facts states start letters size e =
    record {
      states_least = leb-true 1 states (search and_left);
      states_most = leb-true states max_monitor_states (search (and_left, and_right));
      start_below = ltb-true start states (search (and_left, and_right));
      size_is = eqb-true size (monitor_numbers + states + states * letters) (search (and_left, and_right));
    }

-- What the tests of lines and of the horizon tell.
-- Assumes nothing.
use Rattle.std.specs.Prelude.{◌≡◌, true, ℕ, ◌+◌, ◌*◌, ◌≤◌, leb, eqb}
use Rattle.std.proofs.Common.{arith, leb-true, ne_eqb}
use Rattle.records.specs.Laws.Tests.{and_left, and_right, or-not}
use Rattle.records.specs.Meaning.Limits.{max_inputs, max_outputs, max_lines, max_horizon, lines_ok, horizon_ok}

-- what they tell
pub record Lines (mode inputs outputs : ℕ) : Type 0 where
  pub mode_is : mode ≤ 1
  pub inputs_most : inputs ≤ max_inputs
  pub outputs_least : 1 ≤ outputs
  pub outputs_most : outputs ≤ max_outputs
  pub lines_most : inputs + outputs ≤ max_lines
  pub shield : mode ≡ 1 → outputs ≤ inputs

pub lines_facts : (mode inputs outputs : ℕ) → lines_ok mode inputs outputs ≡ true → Lines mode inputs outputs
unfolding lines_ok
lines_facts m i o e =
    record {
      mode_is = leb-true m 1 (search and_left);
      inputs_most = leb-true i max_inputs (search (and_left, and_right));
      outputs_least = leb-true 1 o (search (and_left, and_right));
      outputs_most = leb-true o max_outputs (search (and_left, and_right) depth 9);
      lines_most = leb-true (i + o) max_lines (search (and_left, and_right) depth 9);
      shield = λ q. leb-true o i (or-not (eqb m 0) (leb o i) (search (and_left, and_right) depth 9) (ne_eqb m 0 (λ z. omega arith)));
    }

pub record Horizon (inputs horizon : ℕ) : Type 0 where
  pub most : horizon ≤ max_horizon
  pub product_most : inputs * horizon ≤ max_horizon

pub horizon_facts : (inputs horizon : ℕ) → horizon_ok inputs horizon ≡ true → Horizon inputs horizon
unfolding horizon_ok
horizon_facts i h e =
    record {
      most = leb-true h max_horizon (search and_left);
      product_most = leb-true (i * h) max_horizon (search (and_left, and_right));
    }

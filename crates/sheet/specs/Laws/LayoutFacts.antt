-- What a layout tells the layers above, one small fact each: a monitor's numbers, and bounds where the layout fits its bytes.
-- Assumes nothing.
use Rattle.std.specs.Prelude.{◌≡◌, List, ℕ, ◌+◌, ◌≤◌, ◌<◌, length}
use Rattle.std.proofs.Common.{arith}
use Rattle.records.specs.Meaning.Limits.{max_inputs, max_outputs, max_lines}
use Rattle.sheet_fields.specs.Laws.FieldFacts.{site_le}
use Rattle.sheet.specs.Meaning.Decoded.{monitor_of, letters}
use Rattle.sheet.specs.Model.Where.{width, automaton, placed, decoded, Fits}
use Rattle.sheet.specs.Laws.Placed.{monitor_is, length_accept}
use Rattle.sheet.specs.declared.layout.Sheet.{Sheet}

-- ---- a monitor

module _ (s : List ℕ) (h : Sheet) (j : ℕ) (l : j < h.count) where
  pub role_is : (monitor_of (decoded s h) j).role ≡ (placed h j).role
  unfolding automaton
  role_is = rw (monitor_is s h j l)

  pub weight_is : (monitor_of (decoded s h) j).weight ≡ (placed h j).weight
  unfolding automaton
  weight_is = rw (monitor_is s h j l)

  pub start_is : (monitor_of (decoded s h) j).start ≡ (placed h j).start
  unfolding automaton
  start_is = rw (monitor_is s h j l)

  pub states_are : length (monitor_of (decoded s h) j).accept ≡ (placed h j).states
  states_are = rw (monitor_is s h j l) (length_accept s h (placed h j))

  -- a row of next states has as many letters as the monitor reads
  pub letters_are : letters (decoded s h) (monitor_of (decoded s h) j) ≡ width h (placed h j)
  unfolding decoded
  letters_are = rw role_is

-- ---- a layout that fits

module _ {s : List ℕ} {h : Sheet} (f : Fits s h) where
  pub site_most : h.site ≤ max_inputs
  unfolding decoded
  site_most = f.ok.head.site

  -- the guard's lines
  pub inputs_low : h.inputs ≤ max_inputs
  unfolding decoded
  inputs_low = omega (arith, f.inputs, f.ok.head.inputs)

  pub outputs_low : h.outputs ≤ max_outputs
  unfolding decoded
  outputs_low = f.ok.head.outputs_most

  pub lines_low : h.inputs + h.outputs ≤ max_lines
  unfolding decoded
  lines_low = omega (arith, f.inputs, f.ok.head.lines)

  -- the lines that a monitor's letters are made of
  pub lines_most : h.site + h.outputs ≤ max_lines
  unfolding decoded
  lines_most = omega (arith, site_le h.mode h.site h.outputs, f.ok.head.lines)

  -- a state's accept byte lies inside the bytes
  pub accept_inside : (j q : ℕ) → j < h.count → q < (placed h j).states → (placed h j).accept + q < length s
  accept_inside j q l u = omega (arith, f.accept j l)

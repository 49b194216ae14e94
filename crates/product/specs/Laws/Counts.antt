-- How many inputs, outputs and letters the lines of a sheet make, and how many that is at most.
-- Assumes nothing.
use Rattle.std.specs.Prelude.{◌≡◌, refl, List, ℕ, ◌+◌, ◌*◌, ◌^◌, ◌≤◌}
use Rattle.std.proofs.Math.Path.{ap}
use Rattle.std.proofs.Common.{◌∙◌, mul-le-mul, arith, pow_mono}
use Rattle.std.proofs.Math.Pow.{pow-add}
use Rattle.records.specs.Meaning.Limits.{max_states, max_inputs, max_outputs, max_lines, max_ins, max_outs, max_letters}
use Rattle.sheet.specs.Meaning.Decoded.{Decoded, HeadOk, input_lines}
use Rattle.sheet.specs.Model.Where.{decoded, Fits}
use Rattle.sheet.specs.declared.layout.Sheet.{Sheet}
use Rattle.product.specs.Meaning.Step.{inputs_of, outputs_of}
use Rattle.product.specs.Model.States.{letters_of}
use Rattle.product.specs.Model.ProductNumbering.{cells_length}

-- ---- of a head in bounds

pub inputs_most : (d : Decoded) → HeadOk d → inputs_of d ≤ max_ins
inputs_most d h = omega (arith, pow_mono {j = max_inputs} h.inputs)

pub outputs_most : (d : Decoded) → HeadOk d → outputs_of d ≤ max_outs
outputs_most d h = omega (arith, pow_mono {j = max_outputs} h.outputs_most)

pub letters_most : (d : Decoded) → HeadOk d → letters_of d ≤ max_letters
letters_most d h = omega (arith, pow_mono {j = max_lines} h.lines, pow-add 2 (input_lines d) d.outputs)

-- the rows of as many states as there may be
pub cells_most : (d : Decoded) → HeadOk d → (n : ℕ) → n ≤ max_states → n * letters_of d ≤ cells_length
cells_most d h n few = omega (arith, mul-le-mul few (letters_most d h))

-- ---- in a layout's numbers

pub layout_outputs : (s : List ℕ) (h : Sheet) → 2 ^ h.outputs ≡ outputs_of (decoded s h)
unfolding decoded
layout_outputs s h = refl

module _ {s : List ℕ} {h : Sheet} (fits : Fits s h) where
  pub layout_inputs : 2 ^ h.inputs ≡ inputs_of (decoded s h)
  unfolding decoded
  layout_inputs = ap (λ (x : ℕ). 2 ^ x) fits.inputs

  pub layout_letters : 2 ^ (h.inputs + h.outputs) ≡ letters_of (decoded s h)
  unfolding decoded
  layout_letters = pow-add 2 h.inputs h.outputs ∙ ap (λ (n : ℕ). 2 ^ n * 2 ^ h.outputs) fits.inputs

  pub few_inputs : {n : ℕ} → n ≡ 2 ^ h.inputs → n ≤ max_ins
  few_inputs e = omega (arith, layout_inputs, inputs_most (decoded s h) fits.ok.head)

  pub few_outputs : {n : ℕ} → n ≡ 2 ^ h.outputs → n ≤ max_outs
  few_outputs e = omega (arith, layout_outputs s h, outputs_most (decoded s h) fits.ok.head)

-- Laws of the masks of allowed outputs.
-- Assumes nothing.
use Rattle.std.specs.Prelude.{◌≡◌, Bool, true, false, cond, ◌&&◌, List, ◌↔◌, ℕ, ◌^◌, ◌≤◌, ◌<◌}
use Rattle.std.proofs.Math.Path.{refl}
use Rattle.std.proofs.Common.{sym, ◌∙◌, arith}
use Rattle.records.specs.Laws.Bits.{bits_of, bits_lt, bit_of, bit_past}
use Rattle.records.specs.Meaning.Bits.{bit_at}
use Rattle.records.specs.Laws.Bounded.{sum-zero}
use Rattle.rounds.specs.Model.TableRounds.{cell_at, is_in, leads_in, mask_of}

-- output o is allowed in state k at input i: the state is kept, and the step is unbroken and ends in a kept state
unfoldable pub allows : List ℕ → List ℕ → ℕ → ℕ → ℕ → ℕ → ℕ → Bool
allows cells dropped ins outs k i o = is_in dropped k && leads_in cells dropped (cell_at ins outs k i o)

module _ (cells dropped : List ℕ) (ins outs k i : ℕ) where
  abbrev test : ℕ → Bool
  test = allows cells dropped ins outs k i

  abbrev mask : ℕ
  mask = mask_of cells dropped ins outs k i

  -- the mask is the number whose bits are this test
  pub mask_bits : mask ≡ bits_of outs test
  unfolding mask_of allows
  mask_bits = refl

  pub mask_lt : mask < 2 ^ outs
  mask_lt = rw mask_bits (bits_lt outs test)

  pub mask_bit : (o : ℕ) → o < outs
      → bit_at (mask) o ≡ cond (test o) 1 0
  mask_bit o h = rw mask_bits (bit_of outs test o h)

  -- a bit is 1 exactly if its output is allowed
  pub mask-says : (o : ℕ) → o < outs
      → (bit_at (mask) o ≡ 1) ↔ (test o ≡ true)
  mask-says o h = (λ e. back (test o) (sym (mask_bit o h) ∙ e), λ e. mask_bit o h ∙ rw e)
    where
      back : (b : Bool) → ◌≡◌ {A = ℕ} (cond b 1 0) 1 → b ≡ true
      back true e = refl
      back false e = absurd (omega arith)

  -- and 0 past the outputs
  pub mask_past : (o : ℕ) → outs ≤ o → bit_at (mask) o ≡ 0
  mask_past o h = rw mask_bits (bit_past outs test o h)

  -- nothing is allowed in a state that is not kept
  pub mask_lost : is_in dropped k ≡ false → mask ≡ 0
  unfolding mask_of
  mask_lost e = sum-zero outs _ (λ o h. rw e)

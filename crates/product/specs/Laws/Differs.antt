-- "Differ" means in some line (document 01): the comparison of output and proposal as numbers says just that.
-- Assumes nothing.
use Rattle.std.specs.Prelude.{◌≡◌, Bool, false, not, ℕ, ◌^◌, ◌<◌, eqb}
use Rattle.std.proofs.Common.{sym, eqb-true, eq-eqb}
use Rattle.std.proofs.lemmas.Bool.{eqb-false, not-false}
use Rattle.records.specs.Laws.Tests.{by_test}
use Rattle.records.specs.Meaning.Bounded.{any}
use Rattle.records.specs.Laws.Bounded.{any-not, any_none}
use Rattle.records.specs.Laws.Bits.{same_bits}
use Rattle.sheet.specs.Meaning.Decoded.{Decoded}
use Rattle.game.specs.Meaning.Proposal.{proposal, differs}
use Rattle.product.specs.Meaning.Step.{outputs_of, line}

-- line j of two numbers differs
unfoldable pub apart : ℕ → ℕ → ℕ → Bool
apart a b j = not (eqb (line a j) (line b j))

-- numbers of n lines are equal exactly if no line differs
apart_some : (n a b : ℕ) → a < 2 ^ n → b < 2 ^ n → not (eqb a b) ≡ any n (apart a b)
unfolding apart line
apart_some n a b ha hb =
    by_test (eqb a b) (λ e. rw e (sym (any_none n _ (λ j h. none j (eqb-true a b e)))))
    (λ e. rw e
    (by_test (any n (apart a b)) sym (λ q.
    absurd (eqb-false a b e (same_bits n a b ha hb (λ j h.
    eqb-true (line a j) (line b j) (not-false (eqb (line a j) (line b j)) (any-not n (apart a b) q j h))))))))
  where
    none : (j : ℕ) → a ≡ b → apart a b j ≡ false
    none j e = rw (eq-eqb (line a j) (line b j) (rw e))

-- output and proposal differ exactly if they differ in some line
pub differs_in_some_line : (d : Decoded) (i o : ℕ) → o < outputs_of d → proposal d.site i < outputs_of d
    → differs d.site i o ≡ any d.outputs (apart o (proposal d.site i))
unfolding differs
differs_in_some_line d i o ho hp = apart_some d.outputs o (proposal d.site i) ho hp

-- Laws of the leading output.
-- Assumes nothing.
use mathlib.Core.Path.{◌≡◌, refl, sym, ap}
use mathlib.Core.Option as Math
use mathlib.Core.Option.{none, some}
use Prim.Native.Nat.{ℕ}
use Rattle.records.specs.Laws.Tests.{by_test}
use Rattle.game.specs.Model.Choice.{before, against}
use Rattle.std.specs.Prelude.{Some, None}
use Rattle.std.proofs.lemmas.Option.{none-some, same_Some}
use Rattle.values.specs.Model.Leaders.{goes_before, challenged, leader_of}
use Rattle.values.specs.declared.choice.Leader.{Leader}

module _ (score rank : ℕ → ℕ) where
  pub led : (m : Math.Option ℕ) {lead : Leader} → Some lead ≡ leader_of score rank m → lead.output ≡ Math.get_or m 0
  unfolding leader_of
  led none e = absurd (none-some _ (sym e))
  led (some o) e = ap (λ (l : Leader). l.output) (same_Some _ _ e)

  pub unled : (m : Math.Option ℕ) → None ≡ leader_of score rank m → 0 ≡ Math.get_or m 0
  unfolding leader_of
  unled none e = refl
  unled (some o) e = absurd (none-some _ e)

  pub leader-against : (m : Math.Option ℕ) (o : ℕ)
      → Some (challenged (leader_of score rank m) o (score o) (rank o)) ≡ leader_of score rank (some (against score rank o m))
  unfolding challenged leader_of against before goes_before
  leader-against none o = refl
  leader-against (some b) o =
      by_test (before score rank o b) (λ t. rw t) (λ t. rw t)

-- `plan::gains::fill_gains`: the gains of the tuples before k are stored. Assumes nothing.
use Rattle.std.proofs.Common.{List, ℕ, ◌≡◌}
use Rattle.records.specs.Model.Lists.{put}
use Rattle.sheet.specs.Model.Meant.{meant}
use Rattle.sheet.specs.declared.layout.ReadSheet.{ReadSheet}
use Rattle.product.specs.Meaning.Step.{soft_reward, weight_of}
use Rattle.product.specs.Model.States.{tuple_at}
use Rattle.plan.proofs.gains.fill_gains.Given as goal

-- the gain of tuple k
abbrev pub gain : ReadSheet → List ℕ → ℕ → ℕ
gain sheet tuples k = soft_reward (weight_of (meant sheet)) (meant sheet) (tuple_at tuples k)

abbrev pub invariant-loop-k : goal.invariant-loop-k
invariant-loop-k l = l.gains ≡ put l.initial.gains l.k (gain l.sheet l.tuples)

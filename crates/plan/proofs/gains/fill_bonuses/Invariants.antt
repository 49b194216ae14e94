-- `plan::gains::fill_bonuses`: the bonuses of the letters before l are stored. Assumes nothing.
use Rattle.std.proofs.Common.{List, ℕ, ◌%◌, ◌/◌, ◌≡◌}
use Rattle.records.specs.Model.Lists.{put}
use Rattle.sheet.specs.Model.Where.{decoded}
use Rattle.sheet.specs.declared.layout.Sheet.{Sheet}
use Rattle.product.specs.Model.Stages.{match_reward}
use Rattle.plan.proofs.gains.fill_bonuses.Given as goal

-- the bonus of letter l
abbrev pub bonus : Sheet → ℕ → List ℕ → ℕ → ℕ
bonus sheet ins s l = match_reward (decoded s sheet) (l % ins) (l / ins)

abbrev pub invariant-loop-l : goal.invariant-loop-l
invariant-loop-l l = (s : List ℕ) → l.bonuses ≡ put l.initial.bonuses l.l (bonus l.sheet l.ins s)

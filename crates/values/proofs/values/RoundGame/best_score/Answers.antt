-- `values::values::RoundGame::best_score`: the best score of the outputs before o. Assumes nothing.
use Rattle.std.proofs.Common.{sym, ◌∙◌}
use Rattle.records.specs.Laws.Bounded.{top_none}
use Rattle.values.proofs.Best.{best_more, best_same}
use Rattle.values.proofs.values.RoundGame.best_score.Goals.{in-Some, in_default}
use Rattle.values.proofs.values.RoundGame.best_score.Goals as goal

pub loop-o-init : goal.loop-o-init
loop-o-init c = sym (top_none _ _)

pub loop-o-preserved : goal.loop-o-preserved
loop-o-preserved c =
    elim c.match-offer_of.branch [
      | in-Some w ↦ best_more _ _ _ _ _ _ (sym w.in-Some.is ∙ c.offer_of.ensures) c.loop-o.invariant (w.best-is ∙ w.max-best.ensures)
      | in_default w ↦ w.best-is ∙ best_same _ _ _ _ _ _ (sym w.in_default.is ∙ c.offer_of.ensures) c.loop-o.invariant
    ]

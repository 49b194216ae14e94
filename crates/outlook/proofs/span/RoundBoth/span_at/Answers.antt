-- `outlook::span::RoundBoth::span_at`: the span of the outputs before o. Assumes nothing.
use Rattle.std.proofs.Common.{arith, refl, sym, ◌∙◌, ◌≡◌, ◌≤◌}
use lib.ListN.{length}
use Rattle.rounds.specs.Laws.CellPlaces.{max_index}
use Rattle.values.specs.Model.Values.{cell_next}
use Rattle.values.specs.Model.Tables.{game_in}
use Rattle.outlook.specs.Laws.Spans.{Lands, lands, span_begin, span_more, span_same, span_end}
use Rattle.outlook.proofs.span.RoundBoth.span_at.Goals.{In-Some, in-Some, in_default}
use Rattle.outlook.proofs.span.RoundBoth.span_at.Goals as goal

-- what reading the cell of an output that is allowed asks
landed : (c : In-Some)
    → let a = c.args in Lands (game_in a.self.now.game) a.self.now.lows.now a.self.now.factor a.k a.i c.loop-o.o
landed c =
    let r = c.args.self.now in
    let size : length r.game.steps.cells.now ≤ max_index = omega arith in
    lands c.requires.low c.requires.input c.loop-o-test.true size _ (sym c.in-Some.is ∙ c.offer_of.ensures)

pub loop-o-init : goal.loop-o-init
loop-o-init c = span_begin _ _ _ _ _ _

pub next_of-to-requires : goal.next_of-to-requires
next_of-to-requires c = record { in_row = (landed c).row; cell_in_table = (landed c).cell }

pub score_of-least-requires : goal.score_of-least-requires
unfolding cell_next
score_of-least-requires c = (landed (goal.at.score_of-least-requires c).In-Some).scored _ c.next_of-to.ensures

pub loop-o-preserved : goal.loop-o-preserved
unfolding cell_next
loop-o-preserved c =
    elim c.match-offer_of.branch [
      | in-Some w ↦ w.span-is ∙ span_more _ _ _ _ _ _ _ refl (sym w.in-Some.is ∙ c.offer_of.ensures) c.loop-o.invariant
          w.next_of-to.ensures w.score_of-least.ensures w.with.ensures
      | in_default w ↦ w.span-is ∙ span_same _ _ _ _ _ _ _ (sym w.in_default.is ∙ c.offer_of.ensures) c.loop-o.invariant
    ]

pub returns : goal.returns
returns c =
    let e : c.loop-o.o ≡ c.args.self.now.game.steps.outs = omega (arith, c.loop-o-test.false) in
    span_end _ _ _ _ _ _ _ e c.loop-o.invariant

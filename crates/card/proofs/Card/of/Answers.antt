-- `card::Card::of`: the entries before s are filled in. Assumes nothing.
use Rattle.std.proofs.Common.{ap, arith, sym, ◌∙◌, ◌≡◌}
use Rattle.records.specs.Laws.Lists.{put_none, put_next}
use Rattle.card.specs.Model.Card.{lost_card, card_entry_at, card_of}
use Rattle.card.specs.declared.Card.{Card}
use Rattle.card.proofs.Card.of.Goals as goal

pub loop-s-init : goal.loop-s-init
unfolding lost_card
loop-s-init c = ap (λ (k : Card). k.entries) c.lost-card.ensures ∙ sym (put_none _ _)

pub entry_at-requires : goal.entry_at-requires
entry_at-requires c = c.requires.summed c.loop-s.s c.loop-s-test.true

pub loop-s-preserved : goal.loop-s-preserved
unfolding card_entry_at
loop-s-preserved c = put_next _ _ _ c.loop-s.invariant c.entry_at.ensures

pub returns : goal.returns
unfolding card_of
returns c =
    let e : c.loop-s.s ≡ c.args.n = omega (arith, c.loop-s.auto.s-end) in
    rw (c.loop-s.invariant, e)

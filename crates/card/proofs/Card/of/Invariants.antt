-- `card::Card::of`: the entries before s are filled in. Assumes nothing.
use Rattle.std.proofs.Common.{◌≡◌}
use Rattle.records.specs.Model.Lists.{put}
use Rattle.card.specs.Model.Card.{lost_entries, card_entry_at}
use Rattle.card.proofs.Card.of.Given as goal

abbrev pub invariant-loop-s : goal.invariant-loop-s
invariant-loop-s l = l.card.entries ≡ put lost_entries l.s (card_entry_at l.dropped l.bests l.leasts l.words)

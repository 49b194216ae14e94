-- What each state of a table of steps is worth by the largest or by the smallest score: over one step more, and over a horizon.
-- Assumes nothing.
use Rattle.std.specs.Prelude.{cond, List, ℕ}
use Rattle.records.specs.Meaning.Bounded.{sum}
use Rattle.game.specs.Model.Extreme.{Pick, value_by}
use Rattle.rounds.specs.Model.TableRounds.{is_in}
use Rattle.values.specs.Model.Values.{Game, may_give, cell_next, earns, score_of}

-- what a kept state is worth one step earlier, where `values` is what the states are worth afterwards
unfoldable pub worth_by : Pick → Game → List ℕ → ℕ → ℕ → ℕ
worth_by pick g values factor k =
    cond (is_in g.dropped k) (sum g.ins (λ i. pick g.outs (may_give g k i) (score_of g values factor k i))) 0

-- what a kept state is worth over p steps, by `game`
unfoldable pub table_value : Pick → Game → ℕ → ℕ → ℕ
table_value pick g p k =
    cond (is_in g.dropped k) (value_by pick ℕ g.ins g.outs (cell_next g) (may_give g) (earns g) p k) 0

-- The largest and the smallest score side by side, as the code keeps them.
-- Assumes nothing.
use Rattle.std.specs.Prelude.{cond, Option, Some, None, List, ℕ, min, max}
use Rattle.records.specs.Meaning.Bounded.{any}
use Rattle.records.specs.Model.Bounded.{top}
use Rattle.game.specs.Model.Extreme.{bottom}
use Rattle.values.specs.Model.Values.{Game, may_give, score_of}
use Rattle.outlook.specs.Model.Outlook.{worth_by}
use Rattle.outlook.specs.declared.span.Span.{Span}
use Rattle.outlook.specs.declared.sums.Sums.{Sums}

-- no output yet
abbrev pub no_span : Option Span
no_span = None

-- with one output more, of these scores
unfoldable pub widened : Option Span → ℕ → ℕ → Span
widened None best least = record { best = best; least = least }
widened (Some s) best least = record { best = max s.best best; least = min s.least least }

-- the span of the outputs below o, in state k at input i; none if none of these may be given
unfoldable pub span_before : Game → List ℕ → List ℕ → ℕ → ℕ → ℕ → ℕ → Option Span
span_before g bests leasts factor k i o =
    cond (any o (may_give g k i))
    (Some (record { best = top o (may_give g k i) (score_of g bests factor k i); least = bottom o (may_give g k i) (score_of g leasts factor k i) }))
    None

-- and of all outputs
unfoldable pub span_of : Game → List ℕ → List ℕ → ℕ → ℕ → ℕ → Option Span
span_of g bests leasts factor k i = span_before g bests leasts factor k i g.outs

-- both sums of a state one step earlier
unfoldable pub sums_of : Game → List ℕ → List ℕ → ℕ → ℕ → Sums
sums_of g bests leasts factor k = record { best = worth_by top g bests factor k; least = worth_by bottom g leasts factor k }

-- Laws of the two kinds of rows: their widths and states, and the kind for a count.
-- Assumes nothing.
use Rattle.std.specs.Prelude.{◌≡◌, ℕ, ◌≤◌, ◌<◌}
use Rattle.std.proofs.Math.Decide.{dec_le}
use Rattle.std.proofs.Common.{arith, le-leb}
use Rattle.std.proofs.lemmas.Bool.{lt-leb}
use Rattle.records.specs.Meaning.Limits.{max_states}
use Rattle.guard_table.specs.Meaning.RowKind.{narrow_most, states_most, kind_for, entry_width}
use Rattle.guard_table.specs.declared.kind.RowKind.{RowKind}
use Rattle.guard_table.specs.declared.kind.RowKind.TheVariants.{Narrow, Wide}

-- an entry has two bytes or three
pub width-least : (kind : RowKind) → 2 ≤ entry_width kind
width-least Narrow = omega arith
width-least Wide = omega arith

pub width_most : (kind : RowKind) → entry_width kind ≤ entry_width Wide
width_most Narrow = omega arith
width_most Wide = omega arith

-- no table has more states than there may be
pub states_most_lem : (kind : RowKind) → states_most kind ≤ max_states
states_most_lem Narrow = omega arith
states_most_lem Wide = omega arith

-- the kind for a count: narrow up to 256, then wide; its rows can name that many
pub kind_narrow : (count : ℕ) → count ≤ narrow_most → kind_for count ≡ Narrow
unfolding kind_for
kind_narrow n h = simp (le-leb n narrow_most h)

pub kind_wide : (count : ℕ) → narrow_most < count → kind_for count ≡ Wide
unfolding kind_for
kind_wide n h = simp (lt-leb n narrow_most h)

pub kind_names : (count : ℕ) → count ≤ max_states → count ≤ states_most (kind_for count)
kind_names n h =
    elim (dec_le n narrow_most) [ yes l ↦ rw (kind_narrow n l) l | no l ↦ rw (kind_wide n (omega arith)) h ]

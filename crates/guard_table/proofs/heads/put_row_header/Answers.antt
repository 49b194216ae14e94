-- `guard_table::heads::put_row_header`: the size and the kind, where the row begins. Assumes nothing.
use Rattle.std.proofs.Common.{List, ap₂, arith, ℕ, ◌∙◌, ◌≡◌}
use lib.Seq.{sets}
use Rattle.records.specs.Meaning.Records.{header}
use Rattle.guard_table.specs.Laws.GuardTable.{header_inside}
use Rattle.guard_table.proofs.heads.put_row_header.Goals as goal

-- a header stored at a place that was found
header-stored : (before : List ℕ) {at a size s kind k : ℕ} → at ≡ a → size ≡ s → kind ≡ k → {after : List ℕ}
    → after ≡ sets before at (header size kind) → after ≡ sets before a (header s k)
header-stored before e f g h =
    h ∙ ap₂ (λ (n : ℕ) (l : List ℕ). sets before n l) e (ap₂ header f g)

pub row_at-requires : goal.row_at-requires
row_at-requires c = c.requires.place_most

pub overflow_cast-size : goal.overflow_cast-size
overflow_cast-size c = omega (arith, c.row_size-size.ensures.1)

pub put_header-requires : goal.put_header-requires
put_header-requires c =
    let at = c in
    omega (arith, header_inside _ at.requires, at.row_at.ensures.0)

pub returns : goal.returns
returns c =
    let d = c in
    let at = d in
    header-stored at.args.res.now at.row_at.ensures.0 at.row_size-size.ensures.0
    d.number.ensures d.put_header.ensures

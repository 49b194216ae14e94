-- `guard_table::heads::head_is`: the size, then the part that stands there. Assumes nothing.
use Rattle.std.proofs.Common.{refl, sym, ◌∙◌}
use Rattle.records.specs.Laws.Tests.{cases}
use Rattle.guard_table.specs.Meaning.GuardTable.{header_is}
use Rattle.guard_table.proofs.Parts.{same_head, header-head}
use Rattle.guard_table.proofs.heads.head_is.Goals as goal

pub returns-then-u16_at-eq-HEAD_SIZE : goal.returns-then-u16_at-eq-HEAD_SIZE
returns-then-u16_at-eq-HEAD_SIZE c =
    c.eq.ensures ∙ same_head c.part_at.result ∙ sym (header-head _ _ _ c.u16_at.ensures c.if-u16_at-eq-HEAD_SIZE.true c.part_at.ensures refl)

pub returns-else-u16_at-eq-HEAD_SIZE : goal.returns-else-u16_at-eq-HEAD_SIZE
unfolding header_is
returns-else-u16_at-eq-HEAD_SIZE c = search (cases, ← c.u16_at.ensures)

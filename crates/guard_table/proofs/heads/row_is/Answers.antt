-- `guard_table::heads::row_is`: the size, then an arm for each part. Assumes nothing.
use Rattle.std.proofs.Common.{sym, ◌∙◌, ◌≡◌}
use Rattle.guard_table.specs.Meaning.RowKind.{kind_number}
use Rattle.guard_table.specs.Meaning.GuardTable.{header_is}
use Rattle.guard_table.specs.declared.part.Part.{Part}
use Rattle.guard_table.proofs.Parts.{is_row_of, header_unsized, header_row}
use Rattle.guard_table.proofs.heads.row_is.Goals.{After-part_at}
use Rattle.guard_table.proofs.heads.row_is.Goals as goal

-- the header, by the part that stands there
told : (c : After-part_at) {part : Part} → c.part_at.result ≡ part → let a = c.args in
    header_is a.t.now a.at a.size (kind_number a.kind) ≡ is_row_of a.kind part
told c e =
    header_row _ _ _ c.u16_at.ensures c.if-u16_at-size.false c.part_at.ensures e c.args.kind

pub returns-then-u16_at-size : goal.returns-then-u16_at-size
returns-then-u16_at-size c = sym (header_unsized _ _ _ _ c.u16_at.ensures c.if-u16_at-size.true)

pub returns-in-Row : goal.returns-in-Row
returns-in-Row c = let f = c in c.same.ensures ∙ sym (told (goal.at.returns-in-Row f).After-part_at f.in-Row.is)

pub returns-in-Head : goal.returns-in-Head
returns-in-Head c = sym (told (goal.at.returns-in-Head c).After-part_at c.in-Head.is)

pub returns-in-Other : goal.returns-in-Other
returns-in-Other c = sym (told (goal.at.returns-in-Other c).After-part_at c.in-Other.is)

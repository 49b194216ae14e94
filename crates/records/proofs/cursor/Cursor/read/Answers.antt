-- `records::cursor::Cursor::read`: the tests in the definition's order. Assumes nothing.
use Rattle.std.proofs.Common.{refl}
use Rattle.records.specs.Laws.Tests.{cases}
use Rattle.records.specs.Meaning.Records.{read_at}
use Rattle.records.specs.Laws.Cursor.{finds}
use Rattle.records.proofs.cursor.Cursor.read.Goals as goal

pub returns-then-s-at : goal.returns-then-s-at
unfolding read_at
returns-then-s-at c = finds (search cases) refl

pub returns-then-s-at-lt4 : goal.returns-then-s-at-lt4
unfolding read_at
returns-then-s-at-lt4 c = finds (search cases) refl

pub returns-then-s-start : goal.returns-then-s-start
unfolding read_at
returns-then-s-start c = finds (search (cases, ← c.u16_at-size.ensures)) refl

pub returns : goal.returns
unfolding read_at
returns c = finds (search (cases, ← c.u16_at-size.ensures, ← c.u16_at.ensures)) refl

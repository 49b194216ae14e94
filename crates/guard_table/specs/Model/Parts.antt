-- The records of a guard table, told by their kinds.
-- Assumes nothing.
use Rattle.std.specs.Prelude.{cond, ℕ, eqb}
use Rattle.guard_table.specs.Meaning.RowKind.{kind_number}
use Rattle.guard_table.specs.Meaning.GuardTable.{head_kind}
use Rattle.guard_table.specs.declared.kind.RowKind.TheVariants.{Narrow, Wide}
use Rattle.guard_table.specs.declared.part.Part.{Part}
use Rattle.guard_table.specs.declared.part.Part.TheVariants.{Head, Row, Other}

-- what a record of a kind is
unfoldable pub part_of : ℕ → Part
part_of kind =
    cond (eqb kind head_kind) Head
    (cond (eqb kind (kind_number Narrow)) (Row Narrow) (cond (eqb kind (kind_number Wide)) (Row Wide) Other))

-- `guard_table::entry::entry_in`: by the kind that the table shows. Assumes nothing.
use Rattle.guard_table.specs.Laws.GuardTable.{inside_shows}
use Rattle.guard_table.proofs.entry.entry_in.Goals as goal

pub kind_of-requires : goal.kind_of-requires
kind_of-requires c = inside_shows c.requires

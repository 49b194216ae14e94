-- `guard_table::loadable::is_loadable`: the head first, whose length the rows then take for granted. Assumes nothing.
use Rattle.guard_table.specs.Meaning.Loadable.{loadable}
use Rattle.guard_table.proofs.loadable.is_loadable.Goals as goal

pub returns-in-Some : goal.returns-in-Some
unfolding loadable
returns-in-Some c =
    let h = c.in-Some.ensures in
    simp h.0 (rw (h.1, h.2, h.3, h.4) at c.rows_ok.ensures)

pub returns-in-None : goal.returns-in-None
unfolding loadable
returns-in-None c = simp c.in-None.ensures

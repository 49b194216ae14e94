-- `notebook::makers::guard_of`: the maker's promise, with just the work memory that it asks for. Assumes nothing.
use Rattle.records.specs.Laws.Work.{exactly}
use Rattle.guard.specs.Promises.GuardMaker.{guard_work}
use Rattle.notebook.specs.Model.Figures.{room}
use Rattle.notebook.proofs.Answers.{zeros-length, answered}
use Rattle.notebook.proofs.makers.guard_of.Goals as goal

pub returns : goal.returns
unfolding exactly
returns c = answered guard_work c.make.ensures.made.makes (simp zeros-length) (zeros-length room)

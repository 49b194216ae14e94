-- `notebook::makers::supervisor_of`: the maker's promise, with just the work memory that it asks for. Assumes nothing.
use Rattle.records.specs.Laws.Work.{exactly}
use Rattle.supervisor.specs.Promises.SupervisorMaker.{supervisor_work}
use Rattle.notebook.specs.Model.Figures.{room}
use Rattle.notebook.proofs.Answers.{zeros-length, answered}
use Rattle.notebook.proofs.makers.supervisor_of.Goals as goal

pub returns : goal.returns
unfolding exactly
returns c = answered supervisor_work c.make.ensures.made.makes (simp zeros-length) (zeros-length room)

-- What the maker answered is told.
use Rattle.std.proofs.Common.{refl, arith}
use Rattle.records.specs.Laws.Work.{exactly}
use Rattle.guard.specs.Promises.GuardMaker.{guard_work}
use Rattle.listing.proofs.Printing.{outcome_prints}
use Rattle.listing.proofs.print_guard.Goals as goal

pub returns : goal.returns
unfolding exactly
returns c =
    outcome_prints {lent = exactly guard_work} c.make-made.ensures.made (λ k. omega (arith, c.type_inv.sheet k)) refl
    (refl {a = exactly guard_work}) (omega arith) c.outcome.ensures c.length.ensures

-- `guard_table::kind::shown_kind`: the length, then an arm for each part. Assumes nothing.
use Rattle.std.proofs.Common.{arith, inl, inr, sym}
use Rattle.guard_table.proofs.Parts.{kind-hidden, kind-shown, kind-found}
use Rattle.guard_table.proofs.kind.shown_kind.Goals as goal

pub returns-then-table-lt-SHOWN : goal.returns-then-table-lt-SHOWN
returns-then-table-lt-SHOWN c = kind-hidden _ (omega arith)

pub returns-in-Row : goal.returns-in-Row
returns-in-Row c = (kind-shown _ c.part_at.ensures c.in-Row.is (omega arith), sym (kind-found _ c.part_at.ensures c.in-Row.is))

pub returns-in-Head : goal.returns-in-Head
returns-in-Head c =
    elim c.in-Head.is [ inl e ↦ kind-shown _ c.part_at.ensures e (omega arith) | inr e ↦ kind-shown _ c.part_at.ensures e (omega arith) ]

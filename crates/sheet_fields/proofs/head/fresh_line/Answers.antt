-- `sheet_fields::head::fresh_line`: what `all` answers of the literals before j. Assumes nothing.
use Rattle.std.proofs.Common.{arith, rules, eqb, not, true, false, ℕ, Bool, ◌%◌, ◌+◌, ◌≡◌}
use Rattle.std.proofs.lemmas.Iterator.{cases_from_all, YieldsList-from_slice}
use lib.ListN.{get_or}
use Rattle.records.specs.Laws.Tests.{cases}
use Rattle.sheet_fields.specs.Meaning.Head.{fresh_line}
use Rattle.sheet_fields.proofs.Part.{told}
use Rattle.sheet_fields.proofs.head.fresh_line.Goals.{After-all}
use Rattle.sheet_fields.proofs.head.fresh_line.Goals as goal

-- whether a literal names another line than the one at j
abbrev other : After-all → ℕ → Bool
other c x = let a = c.args in not (eqb (x % 8) (get_or a.s.now (a.at + a.j) 0 % 8))

pub returns : goal.returns
unfolding fresh_line
returns c =
    told _ _ _ (omega arith) (other c) _
    (cases_from_all _ _ _ (λ x. other c x ≡ true) (λ x. other c x ≡ false) c.all.ensures.ran
    (YieldsList-from_slice _ c.iter.ensures.rest) (λ x q k. search (rules, cases)) (λ x q k. search (rules, cases)))

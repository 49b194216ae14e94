-- `guard_table::loadable::SizedTable::rows_ok`: the test of each row. Assumes nothing.
use Rattle.std.proofs.Common.{arith, refl, rules, tests, true, false, ◌≡◌, ℕ}
use Rattle.std.proofs.lemmas.Iterator.{cases_from_all, YieldsList-from_range}
use Rattle.guard_table.specs.Meaning.Loadable.{row_ok, rows_ok}
use Rattle.guard_table.proofs.Chains.{all_below}
use Rattle.guard_table.proofs.loadable.SizedTable.rows_ok.Goals as goal

pub returns : goal.returns
unfolding rows_ok
returns c =
    let s = c.args.self.now in
    let ok = row_ok s.bytes.now s.layout.inputs s.outputs s.count in
    all_below ok s.count c.all.result
    (cases_from_all _ _ _ (λ (k : ℕ). ok k ≡ true) (λ (k : ℕ). ok k ≡ false) c.all.ensures.ran (YieldsList-from_range 0 s.count s.count refl (omega arith))
    (λ x q k. search (rules, tests)) (λ x q k. search (rules, tests)))

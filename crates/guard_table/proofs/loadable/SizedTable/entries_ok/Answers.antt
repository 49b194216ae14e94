-- `guard_table::loadable::SizedTable::entries_ok`: the test of each entry. Assumes nothing.
use Rattle.std.proofs.Common.{refl, rules, tests, true, false, ◌≡◌, ◌∙◌, ℕ}
use Rattle.std.proofs.lemmas.Iterator.{cases_from_all, YieldsList-from_range}
use Rattle.records.specs.Meaning.Limits.{max_ins}
use Rattle.guard_table.specs.Model.Entries.{entry_passes}
use Rattle.guard_table.proofs.Chains.{all_below}
use Rattle.guard_table.proofs.Entries.{entries_all}
use Rattle.guard_table.proofs.loadable.SizedTable.entries_ok.Goals as goal

pub returns : goal.returns
returns c =
    let s = c.args.self.now in
    let passes = entry_passes s.bytes.now s.layout.inputs s.outputs s.count c.args.place in
    all_below passes max_ins c.all.result
    (cases_from_all _ _ _ (λ (k : ℕ). passes k ≡ true) (λ (k : ℕ). passes k ≡ false) c.all.ensures.ran (YieldsList-from_range 0 max_ins max_ins refl refl)
    (λ x q k. search (rules, tests)) (λ x q k. search (rules, tests)))
    ∙ entries_all _ _ _ _ _ s.sized.inputs_most

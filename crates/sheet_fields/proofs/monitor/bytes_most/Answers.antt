-- `sheet_fields::monitor::bytes_most`: what `all` answers of the part's bytes. Assumes nothing.
use Rattle.std.proofs.Common.{rules, leb, true, false, ◌≡◌}
use Rattle.std.proofs.lemmas.Iterator.{cases_from_all, YieldsList-from_slice}
use Rattle.records.specs.Laws.Tests.{cases}
use Rattle.sheet_fields.specs.Meaning.Monitor.{bytes_most}
use Rattle.sheet_fields.proofs.Part.{told}
use Rattle.sheet_fields.proofs.monitor.bytes_most.Goals as goal

pub returns : goal.returns
unfolding bytes_most
returns c =
    told _ _ _ c.requires (λ x. leb x c.args.most) _
    (cases_from_all _ _ _ (λ x. leb x c.args.most ≡ true) (λ x. leb x c.args.most ≡ false) c.all.ensures.ran
    (YieldsList-from_slice _ c.iter.ensures.rest) (λ x q k. search (rules, cases)) (λ x q k. search (rules, cases)))

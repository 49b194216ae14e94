-- `product::rewards::soft_weight`: nothing unless soft and accepting. Assumes nothing.
use Rattle.std.proofs.Common.{arith, sym, ◌∙◌, ◌≡◌}
use Rattle.records.specs.Laws.Tests.{said}
use Rattle.sheet.specs.Meaning.Decoded.{monitor_of}
use Rattle.sheet.specs.Model.Meant.{meant}
use Rattle.product.proofs.LaidOut.{role_found, weight_found, state_fits}
use Rattle.product.proofs.Moving.{soft_not, soft_silent, soft_earns}
use Rattle.product.proofs.rewards.soft_weight.Goals.{After-monitor_of-m}
use Rattle.product.proofs.rewards.soft_weight.Goals as goal

role : (c : After-monitor_of-m) → (monitor_of (meant c.args.sheet.now) c.args.j).role ≡ c.monitor_of-m.result.role
role c = role_found _ _ _ c.requires.j_lt_count c.monitor_of-m.ensures

pub accepts_in-requires : goal.accepts_in-requires
accepts_in-requires c = (c.requires.j_lt_count, state_fits _ _ _ c.requires.in_range _ c.requires.j_lt_count)

pub returns-then-accepts_in : goal.returns-then-accepts_in
returns-then-accepts_in c = (
  c.from.ensures
      ∙ sym (soft_earns _ _ _ (role (goal.at.returns-then-accepts_in c).After-monitor_of-m ∙ c.in-1.is) (said c.accepts_in.ensures c.if-accepts_in.true)
      ∙ weight_found _ _ _ c.requires.j_lt_count c.monitor_of-m.ensures),
  omega (arith, c.from.ensures),
)

pub returns-else-accepts_in : goal.returns-else-accepts_in
returns-else-accepts_in c = (sym (soft_silent _ _ _ (said c.accepts_in.ensures c.if-accepts_in.false)), omega arith)

pub returns-in-0 : goal.returns-in-0
returns-in-0 c = (sym (soft_not _ _ _ (λ q. omega (arith, role (goal.at.returns-in-0 c).After-monitor_of-m))), omega arith)

pub returns-in-0-2 : goal.returns-in-0-2
returns-in-0-2 c = (sym (soft_not _ _ _ (λ q. omega (arith, role (goal.at.returns-in-0-2 c).After-monitor_of-m))), omega arith)

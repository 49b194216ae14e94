-- `rounds::leads_to_kept`: no round is under way. Assumes nothing.
use Rattle.rounds.proofs.Start.{start_none}
use Rattle.rounds.proofs.leads_to_kept.Goals as goal

pub returns : goal.returns
returns c = rw (start_none _) at c.cell_leads.ensures

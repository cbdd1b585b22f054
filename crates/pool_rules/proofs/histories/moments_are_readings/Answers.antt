use Rattle.std.proofs.Common.{◌∙◌, ap}
use Rattle.pool_rules.specs.Histories.{latest_in}
use Rattle.pool_rules.proofs.HistoryKept.{leads_latest}
use Rattle.pool_rules.proofs.Readers.{some_reads}
use Rattle.pool_rules.proofs.histories.moments_are_readings.Goals as goal

pub returns : goal.returns
returns c = λ o list s h. leads_latest some_reads.0 some_reads.1 h.opening list s h.leads ∙ ap (latest_in list) h.opened.latest

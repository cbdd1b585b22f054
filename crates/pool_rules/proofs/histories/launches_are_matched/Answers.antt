use Rattle.pool_rules.proofs.HistoryLaunches.{launched_matched}
use Rattle.pool_rules.proofs.Readers.{some_reads}
use Rattle.pool_rules.proofs.histories.launches_are_matched.Goals as goal

pub returns : goal.returns
returns c = launched_matched some_reads.0 some_reads.1

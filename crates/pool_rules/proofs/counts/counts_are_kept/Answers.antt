use Rattle.pool_rules.proofs.Counting.{event_counted, event_counts, opening_counted}
use Rattle.pool_rules.proofs.Readers.{some_reads}
use Rattle.pool_rules.proofs.counts.counts_are_kept.Goals as goal

pub returns-clause-openings : goal.returns-clause-openings
returns-clause-openings c = opening_counted

pub returns-clause-events : goal.returns-clause-events
returns-clause-events c = event_counted some_reads.0 some_reads.1

pub returns-clause-bytes : goal.returns-clause-bytes
returns-clause-bytes c = event_counts some_reads.0 some_reads.1

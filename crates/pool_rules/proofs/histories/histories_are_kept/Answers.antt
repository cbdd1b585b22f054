use Rattle.pool_rules.proofs.HistoryKept.{history_kept, history_shows}
use Rattle.pool_rules.proofs.PoolViews.{view_shows}
use Rattle.pool_rules.proofs.Readers.{some_reads}
use Rattle.pool_rules.proofs.histories.histories_are_kept.Goals as goal

pub returns-clause-kept : goal.returns-clause-kept
returns-clause-kept c = history_kept some_reads.0 some_reads.1

pub returns-clause-shown : goal.returns-clause-shown
returns-clause-shown c = history_shows some_reads.0 some_reads.1

pub returns-clause-views : goal.returns-clause-views
returns-clause-views c = λ read reads o list s view h of. (let k = history_kept read reads o list s h in view_shows read reads k.0 s view k.1 of)

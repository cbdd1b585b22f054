use Rattle.pool_rules.proofs.LogAnswers.{event_finishes}
use Rattle.pool_rules.proofs.LogAppends.{answers_can_be_logged}
use Rattle.pool_rules.proofs.Readers.{some_reads}
use Rattle.pool_rules.proofs.appends.appends_can_be_logged.Goals as goal

pub returns-clause-unfinished : goal.returns-clause-unfinished
returns-clause-unfinished c = λ p s new e r kept few logs can accepts short. event_finishes some_reads.0 some_reads.1 s p kept few logs can e r new accepts short

pub returns-clause-answers : goal.returns-clause-answers
returns-clause-answers c = answers_can_be_logged

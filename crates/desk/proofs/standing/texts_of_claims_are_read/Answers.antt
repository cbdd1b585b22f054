use Rattle.pool_rules.proofs.Readers.{some_reads}
use Rattle.desk.proofs.standing.texts_of_claims_are_read.Goals as goal

pub returns : goal.returns
returns c = some_reads

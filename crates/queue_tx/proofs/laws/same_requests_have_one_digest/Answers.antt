use Rattle.queue_tx.proofs.RequestDigests.{same_requests_have_one_digest}
use Rattle.queue_tx.proofs.laws.same_requests_have_one_digest.Goals as goal

pub returns : goal.returns
returns c = same_requests_have_one_digest

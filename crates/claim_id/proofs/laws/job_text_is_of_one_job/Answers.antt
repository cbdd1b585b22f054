use Rattle.claim_id.proofs.OneText.{one_job}
use Rattle.claim_id.proofs.laws.job_text_is_of_one_job.Goals as goal

pub returns : goal.returns
returns c = one_job

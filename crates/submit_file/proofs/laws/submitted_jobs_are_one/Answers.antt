use Rattle.submit_file.proofs.OneResult.{one_result}
use Rattle.submit_file.proofs.laws.submitted_jobs_are_one.Goals as goal

pub returns : goal.returns
returns c = one_result

use Rattle.schedd_core.proofs.LeftJobs.{left_has_no_run, back_without_left}
use Rattle.schedd_core.proofs.laws.left_jobs_are_under_no_run.Goals as goal

pub returns-clause-runs : goal.returns-clause-runs
returns-clause-runs c = left_has_no_run

pub returns-clause-claims : goal.returns-clause-claims
returns-clause-claims c = back_without_left

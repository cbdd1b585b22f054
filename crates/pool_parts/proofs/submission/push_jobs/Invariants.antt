-- With the jobs that are left the cluster is whole.
use Rattle.std.proofs.Common.{◌≡◌, ◌++◌, drop}
use Rattle.pool_parts.specs.Submissions.{jobs_ops}
use Rattle.pool_parts.proofs.submission.push_jobs.Given as goal

abbrev pub invariant-loop-ad : goal.invariant-loop-ad
invariant-loop-ad l = l.tx ++ jobs_ops l.cluster l.proc (drop l.ad-index l.jobs) ≡ l.initial.tx ++ jobs_ops l.cluster 0 l.jobs

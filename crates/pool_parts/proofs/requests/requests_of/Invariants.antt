-- The requests so far, and those of the jobs that are left, are all.
use Rattle.std.proofs.Common.{◌≡◌, ◌++◌, drop}
use Rattle.std.specs.List.{filter_map}
use Rattle.pool_parts.specs.Listings.{request_at}
use Rattle.pool_parts.proofs.requests.requests_of.Given as goal

abbrev pub invariant-loop-job : goal.invariant-loop-job
invariant-loop-job l = l.list ++ filter_map (request_at l.queue) (drop l.job-index l.jobs)
    ≡ filter_map (request_at l.queue) l.jobs

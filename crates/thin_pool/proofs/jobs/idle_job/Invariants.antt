-- The place counts from here on.
use Rattle.std.proofs.Common.{◌≡◌, slice_get}
use Rattle.thin_pool.specs.Jobs.{idle_jobs}
use Rattle.thin_pool.proofs.jobs.idle_job.Given as goal

abbrev pub invariant-loop-id : goal.invariant-loop-id
invariant-loop-id l = slice_get (idle_jobs l.id-iterator) l.left ≡ slice_get (idle_jobs l.jobs.entries) l.place

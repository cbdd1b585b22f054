-- What a caller reads of a pool's jobs.
use Rattle.std.specs.Prelude.{ℕ, Bool, true, false, not, List, slice_get, Option, Some, None, if◌then◌else◌}
use Rattle.std.specs.List.{filter_map, list_any}
use Rattle.ad_tree.specs.Ad.{Attributes}
use Rattle.claim_id.specs.declared.numbers.JobId.{JobId}
use Rattle.thin_pool.specs.declared.job.Job.{Job}
use Rattle.thin_pool.specs.declared.job.Phase.{Phase}
use Rattle.thin_pool.specs.declared.job.Phase.TheVariants.{Idle, Running, Held, Finished}
use Rattle.thin_pool.specs.PoolValue.{is_idle}

abbrev pub idle_job : JobId × Job → Option (JobId × Attributes)
idle_job e = if is_idle e.1.phase then Some (e.0, e.1.ad) else None

abbrev pub idle_in : Option (JobId × Job) → Option (JobId × Attributes)
idle_in None = None
idle_in (Some e) = idle_job e

-- the job that was submitted at that place, where it is idle
abbrev pub idle_at : ℕ → List (JobId × Job) → Option (JobId × Attributes)
idle_at place jobs = idle_in (slice_get jobs place)

-- the idle jobs with their ads, in the order of their submission
abbrev pub idle_jobs : List (JobId × Job) → List (JobId × Attributes)
idle_jobs jobs = filter_map idle_job jobs

abbrev pub is_finished : Phase → Bool
is_finished Idle = false
is_finished (Running run until) = false
is_finished (Held run) = false
is_finished (Finished run end) = true

abbrev pub is_unfinished : JobId × Job → Bool
is_unfinished e = not (is_finished e.1.phase)

-- some job isn't finished
abbrev pub has_unfinished : List (JobId × Job) → Bool
has_unfinished jobs = list_any is_unfinished jobs

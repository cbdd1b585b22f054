-- The order of the jobs that an earlier boot of the pool left.
use Rattle.std.specs.Prelude.{◌≡◌, ◌∷◌, [], ℕ, List, Option, Some, None, MatchOption, filter}
use Rattle.std.specs.List.Sorted.{IsStrictlySortedBy}
use Rattle.std.specs.Ordering.{nat_cmp, on, then_cmp, is_lt}
use Rattle.std.specs.declared.cmp.Ordering.{Ordering}
use Rattle.claim_id.specs.declared.numbers.JobId.{JobId}

abbrev pub job_cluster : JobId → ℕ
job_cluster job = job.cluster

abbrev pub job_proc : JobId → ℕ
job_proc job = job.proc

-- by cluster, then by proc
abbrev pub job_cmp : JobId → JobId → Ordering
job_cmp = then_cmp (on job_cluster nat_cmp) (on job_proc nat_cmp)

-- each comes before those after it
abbrev pub AreInOrder : List JobId → Type 0
AreInOrder jobs = IsStrictlySortedBy job_cmp jobs

-- the jobs that come after another one, or all
abbrev pub later_jobs : Option JobId → List JobId → List JobId
later_jobs None jobs = jobs
later_jobs (Some last) jobs = filter (λ job. is_lt (job_cmp last job)) jobs

-- the first of those that come after another one, and those that come after it
abbrev pub IsNextJob : Option JobId → List JobId → Option JobId → Type 0
IsNextJob last jobs found = MatchOption found
    (later_jobs last jobs ≡ [])
    (λ job. later_jobs last jobs ≡ job ∷ later_jobs (Some job) jobs)

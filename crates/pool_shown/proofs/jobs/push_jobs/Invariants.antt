-- The entries so far, with those of the jobs that are left, are all.
use Rattle.std.proofs.Common.{◌≡◌, ℕ, ◌++◌, List, Option, drop}
use Rattle.std.specs.Prelude.{filter_map}
use Rattle.claim_id.specs.declared.numbers.ClaimId.{ClaimId}
use Rattle.schedd_state.specs.Reopening.{IsReader}
use Rattle.pool_shown.specs.ShownJobs.{shown_entry}
use Rattle.pool_shown.proofs.jobs.push_jobs.Given as goal

abbrev pub invariant-loop-job : goal.invariant-loop-job
invariant-loop-job l = (read : List ℕ → Option ClaimId) → IsReader read
    → l.entries ++ filter_map (shown_entry read l.queue l.left) (drop l.job-index l.jobs)
    ≡ l.initial.entries ++ filter_map (shown_entry read l.queue l.left) l.jobs

-- What comes of the jobs that are left is what comes of all.
use Rattle.std.proofs.Common.{◌≡◌, ℕ, List, Option, drop}
use Rattle.claim_id.specs.declared.numbers.ClaimId.{ClaimId}
use Rattle.schedd_state.specs.Reopening.{IsReader, found_behind, found_runs}
use Rattle.schedd_core.proofs.reopened.found_runs.Given as goal

abbrev pub invariant-loop-job : goal.invariant-loop-job
invariant-loop-job l = (read : List ℕ → Option ClaimId) → IsReader read
    → found_behind read l.queue l.left l.reading (drop l.job-index l.jobs) l.runs.items
    ≡ found_runs read l.queue l.left l.reading l.jobs

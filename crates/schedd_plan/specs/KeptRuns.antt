-- The jobs that are under a run of this boot of the pool, and each small change of their list.
use Rattle.std.specs.Prelude.{ℕ, Bool, ◌&&◌, ◌||◌, ◌==◌, not, List, length, position, slice_get, slice_set, insert, remove, nat_lt, Option, Some, None, if◌then◌else◌}
use Rattle.std.specs.List.{list_any}
use Rattle.claim_id.specs.declared.numbers.ClaimNo.{ClaimNo}
use Rattle.claim_id.specs.declared.numbers.JobId.{JobId}
use Rattle.claim_id.specs.declared.numbers.RunNo.{RunNo}
use Rattle.pool_view.specs.Numbers.{same_job, same_claim}
use Rattle.schedd_plan.specs.declared.runs.KeptRun.{KeptRun}

abbrev pub run_of : KeptRun → RunNo
run_of r = record { claim = r.claim.no; number = r.number }

abbrev pub is_run : RunNo → KeptRun → Bool
is_run run r = same_claim r.claim.no run.claim && (r.number == run.number)

abbrev pub is_of_job : JobId → KeptRun → Bool
is_of_job job r = same_job r.job job

abbrev pub is_under : ClaimNo → KeptRun → Bool
is_under number r = same_claim r.claim.no number

abbrev pub place_of_run : RunNo → List KeptRun → Option ℕ
place_of_run run runs = position (is_run run) runs

abbrev pub place_of_job : JobId → List KeptRun → Option ℕ
place_of_job job runs = position (is_of_job job) runs

abbrev pub has_job_under : ClaimNo → List KeptRun → Bool
has_job_under number runs = list_any (is_under number) runs

-- by cluster, then by proc
abbrev pub is_before : JobId → JobId → Bool
is_before a b = nat_lt a.cluster b.cluster || ((a.cluster == b.cluster) && nat_lt a.proc b.proc)

abbrev pub is_not_before : JobId → KeptRun → Bool
is_not_before job r = not (is_before r.job job)

abbrev pub first_not_before : JobId → List KeptRun → Option ℕ
first_not_before job runs = position (is_not_before job) runs

abbrev pub place_or : Option ℕ → ℕ → ℕ
place_or None end = end
place_or (Some place) end = place

abbrev pub place_for : JobId → List KeptRun → ℕ
place_for job runs = place_or (first_not_before job runs) (length runs)

-- one more run, in order of the jobs
abbrev pub with_run : KeptRun → List KeptRun → List KeptRun
with_run r runs = insert runs (place_for r.job runs) r

-- the run of a place goes
abbrev pub runs_without : ℕ → List KeptRun → List KeptRun
runs_without place runs = if nat_lt place (length runs) then remove runs place else runs

abbrev pub enlivened : Option KeptRun → ℕ → ℕ → Bool → List KeptRun → List KeptRun
enlivened None place alive found runs = runs
enlivened (Some r) place alive found runs =
    slice_set runs place (record r { alive = alive; found = found })

-- the run of a place was alive at a reading
abbrev pub with_alive : ℕ → ℕ → Bool → List KeptRun → List KeptRun
with_alive place alive found runs = enlivened (slice_get runs place) place alive found runs

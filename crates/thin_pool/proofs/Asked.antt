-- What a change of a pool asks for.
use Rattle.std.proofs.Common.{◌≡◌, ℕ, ◌+◌, ◌<◌, ◌≤◌, ◌^◌, List, length, None, IsSome, arith}
use Rattle.std.specs.List.{count_by}
use Rattle.std.proofs.lemmas.List.Sums.{count_by-le-length}
use Rattle.ad_eval.specs.Judgement.{Judgement}
use Rattle.claim_id.specs.declared.numbers.JobId.{JobId}
use Rattle.claim_id.specs.declared.numbers.SlotId.{SlotId}
use Rattle.thin_pool.specs.declared.event.Event.TheVariants.{Start}
use Rattle.thin_pool.specs.declared.job.Job.{Job}
use Rattle.thin_pool.specs.PoolValue.{PoolValue, job_at, run_at, has_started}
use Rattle.thin_pool.specs.Reactions.{refusal}
use Rattle.thin_pool.proofs.Consistent.{opened, startable}

-- no more runs were started than there are jobs, so the next one has a number
pub next_is_numbered : (jobs : List (JobId × Job)) (started : ℕ) → started ≡ count_by has_started jobs → length jobs ≤ 10000 → started + 1 < 2 ^ 64
next_is_numbered jobs started counted few = omega (arith, count_by-le-length has_started jobs)

-- the slot of a start that is accepted has no run
pub free_to_start : (p : PoolValue) (job : JobId) (slot : SlotId) (judged : Judgement) (reading : ℕ) → refusal p (Start job slot judged reading) ≡ None → run_at slot p.runs ≡ None
free_to_start p job slot judged reading ok = (startable p job slot judged reading (opened p (Start job slot judged reading) ok)).free

-- the next cluster comes after all that a table has
pub cluster_is_new : (jobs : List (JobId × Job)) (last cluster : ℕ) → ((id : JobId) → IsSome (job_at id jobs) → id.cluster ≤ last) → cluster ≡ last + 1 → (id : JobId) → IsSome (job_at id jobs) → id.cluster < cluster
cluster_is_new jobs last cluster numbered next id there = omega (arith, numbered id there, next)

-- What becomes of a pool where its unfinished transaction is logged.
use Rattle.std.specs.Prelude.{◌≡◌, ℕ, zero, suc, ◌+◌, ◌-◌, Bool, true, false, List, [], ◌∷◌, ◌++◌, Ok, Option, Some, None, is_some, IsSomeAnd, if◌then◌else◌}
use Rattle.std.specs.BTreeMap.{insert_entry}
use Rattle.ad_tree.specs.Ad.{Attributes}
use Rattle.claim_id.specs.declared.numbers.ClaimId.{ClaimId}
use Rattle.claim_id.specs.declared.numbers.JobId.{JobId}
use Rattle.claim_id.specs.declared.numbers.RunNo.{RunNo}
use Rattle.pool_parts.specs.declared.answer.Answer.TheVariants as answer
use Rattle.pool_parts.specs.declared.answer.Stepped.{Stepped}
use Rattle.pool_parts.specs.declared.pending.Pending.{Pending}
use Rattle.pool_parts.specs.declared.pending.Unfinished.{Unfinished}
use Rattle.pool_parts.specs.declared.pending.Unfinished.TheVariants.{Submission, Plan}
use Rattle.pool_parts.specs.Plans.{leaving_job}
use Rattle.pool_parts.specs.Sizes.{queue_count}
use Rattle.pool_parts.specs.declared.finished.FinishedJob.{FinishedJob}
use Rattle.pool_state.specs.declared.state.Counts.{Counts}
use Rattle.pool_state.specs.declared.state.PoolState.{PoolState}
use Rattle.pool_view.specs.declared.job.Outcome.{Outcome}
use Rattle.pool_view.specs.declared.job.Outcome.TheVariants.{EndedBy, Removed}
use Rattle.queue_tx.specs.declared.key.Key.{Key}
use Rattle.queue_tx.specs.declared.key.Key.TheVariants.{Proc}
use Rattle.queue_tx.specs.Keys.{key_cmp}
use Rattle.queue_tx.specs.Queues.{KeyedAds, ad_at, queue_after}
use Rattle.schedd_state.specs.DueChecks.{with_new}
use Rattle.schedd_core.specs.Logging.{after_logged, numbered, IsReopened}
use Rattle.schedd_core.specs.PlanChanges.{how_of}
use Rattle.schedd_state.specs.Reopening.{IsReader, claim_in}
use Rattle.schedd_state.specs.Schedds.{ScheddValue}
use Rattle.schedd_plan.specs.declared.plan.JobPlan.{JobPlan}
use Rattle.schedd_plan.specs.declared.plan.JobPlan.TheVariants as plan
use Rattle.schedd_plan.specs.Plans.{job_of}
use Rattle.schedd_plan.specs.JobAttributes.{run_number}
use Rattle.pool_rules.specs.Answers.{answered}
use Rattle.pool_rules.specs.Deeds.{counts_sent, posts}

-- ---- jobs that leave the queue
abbrev pub run_named : Option ClaimId → Option ℕ → Option RunNo
run_named None number = None
run_named (Some claim) None = None
run_named (Some claim) (Some number) = Some (numbered claim number)

-- the run under which an ad says that its job is
abbrev pub run_under : (List ℕ → Option ClaimId) → Attributes → Option RunNo
run_under read ad = run_named (claim_in read ad) (run_number ad)

abbrev pub ended_by : Option RunNo → JobPlan → Option Outcome
ended_by None p = None
ended_by (Some run) (plan.Complete job completion) = Some (EndedBy run (how_of completion))
ended_by (Some run) p = None

-- how a job leaves the queue by a plan, from under that run
abbrev pub outcome_of : Option RunNo → JobPlan → Option Outcome
outcome_of run (plan.Remove job) = Some Removed
outcome_of run p = ended_by run p

abbrev pub Leaver : Type 0
Leaver = Option (Key × FinishedJob)

abbrev pub leaver_as : Option Outcome → Key → Attributes → Leaver
leaver_as None key ad = None
leaver_as (Some outcome) key ad = Some (key, record { outcome = outcome; ad = ad })

abbrev pub leaver_with : (List ℕ → Option ClaimId) → Option Attributes → JobPlan → Leaver
leaver_with read None p = None
leaver_with read (Some ad) p = leaver_as (outcome_of (run_under read ad) p) (Proc (job_of p)) ad

-- the job that leaves the queue by what is logged, with the ad that it has there
abbrev pub leaver_of : (List ℕ → Option ClaimId) → KeyedAds → Unfinished → Leaver
leaver_of read q (Submission cluster count) = None
leaver_of read q (Plan p) = leaver_with read (ad_at (Proc (job_of p)) q) p

abbrev pub with_leaver : Leaver → List (Key × FinishedJob) → List (Key × FinishedJob)
with_leaver None finished = finished
with_leaver (Some e) finished = insert_entry key_cmp finished e.0 e.1

abbrev pub jobs_left_by : JobPlan → ℕ → ℕ
jobs_left_by p jobs = if is_some (leaving_job p) then jobs - 1 else jobs

-- how many jobs the queue has then
abbrev pub jobs_after : Unfinished → ℕ → ℕ
jobs_after (Submission cluster count) jobs = jobs + count
jobs_after (Plan p) jobs = jobs_left_by p jobs

-- what is counted then, with that queue in place of the old one
abbrev pub counts_logged : KeyedAds → KeyedAds → Unfinished → Counts → Counts
counts_logged old q what c = record {
  jobs = jobs_after what c.jobs;
  bytes = c.bytes + queue_count q - queue_count old;
}

-- ---- the unfinished transaction is in the log, with that queue
abbrev pub with_logged : KeyedAds → Leaver → Unfinished → PoolState → PoolState
with_logged q leaver what s = record s {
  queue = q;
  pending = None;
  next_tx = s.next_tx + 1;
  finished = with_leaver leaver s.finished;
  counts = counts_logged s.queue q what s.counts;
}

-- the first jobs of a cluster
abbrev pub cluster_jobs : ℕ → ℕ → List JobId
cluster_jobs cluster zero = []
cluster_jobs cluster (suc count) =
    cluster_jobs cluster count ++ record { cluster = cluster; proc = count } ∷ []

-- ---- what is logged
-- a submission is logged: its jobs are acknowledged, and the schedd is told of the first
abbrev pub with_submission : KeyedAds → ℕ → ℕ → PoolState → PoolState
with_submission q cluster count s = record (with_logged q None (Submission cluster count) s) {
  schedd = with_new (Proc (record { cluster = cluster; proc = 0 })) s.schedd;
  acked = s.acked ++ cluster_jobs cluster count;
}

-- a plan is logged: the schedd goes on with that queue, and what waited is sent
abbrev pub with_plan : KeyedAds → Leaver → JobPlan → PoolState → PoolState
with_plan q leaver p s = record (with_logged q leaver (Plan p) s) {
  schedd = (after_logged s.schedd q s.schedd.waiting).schedd;
  mails = posts (after_logged s.schedd q s.schedd.waiting).step.mails s.mails;
  counts = counts_sent (after_logged s.schedd q s.schedd.waiting).step.mails
      (counts_logged s.queue q (Plan p) s.counts);
}

abbrev pub after_unfinished : KeyedAds → Leaver → Unfinished → PoolState → PoolState
after_unfinished q leaver (Submission cluster count) s = with_submission q cluster count s
after_unfinished q leaver (Plan p) s = with_plan q leaver p s

-- the unfinished transaction is logged
pub record IsLogged (s : PoolState) (p : Pending) (new : PoolState) (r : Stepped)
    : Type 0 where
  pub queue : KeyedAds
  pub done : queue_after s.queue p.tx ≡ Ok queue
  pub pool : (read : List ℕ → Option ClaimId) → IsReader read
      → new ≡ after_unfinished queue (leaver_of read s.queue p.what) p.what s
  pub answer : r ≡ answered answer.Done

-- ---- the schedd comes back
-- without its unfinished transaction
pub record IsBackWithout (s : PoolState) (reading : ℕ) (new : PoolState) : Type 0 where
  pub schedd : ScheddValue
  pub back : IsReopened s.schedd s.queue reading schedd
  pub pool : new ≡ record s { schedd = schedd; pending = None }

-- with it, which is in the log
pub record IsBackWith (s : PoolState) (p : Pending) (reading : ℕ) (new : PoolState)
    : Type 0 where
  pub schedd : ScheddValue
  pub queue : KeyedAds
  pub done : queue_after s.queue p.tx ≡ Ok queue
  pub back : IsReopened s.schedd queue reading schedd
  pub pool : (read : List ℕ → Option ClaimId) → IsReader read → new
      ≡ record (with_logged queue (leaver_of read s.queue p.what) p.what s) { schedd = schedd }

abbrev pub ScheddIsBack : PoolState → Bool → ℕ → PoolState → Type 0
ScheddIsBack s false reading new = IsBackWithout s reading new
ScheddIsBack s true reading new = IsSomeAnd s.pending (λ p. IsBackWith s p reading new)

-- What an event of the schedd makes of the parts of a pool, and the moves that it is.
use Rattle.std.specs.Prelude.{◌≡◌, ◌≢◌, ℕ, Bool, List, [], ◌∷◌, ◌++◌, map, Option, Some, None, is_some, IsSomeAnd, if◌then◌else◌}
use Rattle.ad_tree.specs.Ad.{Attributes}
use Rattle.claim_id.specs.declared.numbers.ClaimId.{ClaimId}
use Rattle.claim_id.specs.declared.numbers.JobId.{JobId}
use Rattle.pool_mail.specs.declared.mail.Mail.{Mail}
use Rattle.pool_mail.specs.declared.mail.Mail.TheVariants as mail
use Rattle.pool_view.specs.ProtocolMove.{ProtocolMove, TakeOrder}
use Rattle.pool_view.specs.AbstractPool.{set}
use Rattle.pool_view.specs.Ads.{core_of}
use Rattle.pool_view.specs.Numbers.{same_job}
use Rattle.pool_view.specs.declared.job.Entry.{Entry}
use Rattle.pool_view.specs.declared.job.Outcome.{Outcome}
use Rattle.pool_view.specs.declared.job.Outcome.TheVariants as outcome
use Rattle.pool_view.specs.declared.job.State.TheVariants.{Done}
use Rattle.queue_tx.specs.declared.key.Key.TheVariants.{Proc}
use Rattle.queue_tx.specs.Kinds.{kind_of}
use Rattle.queue_tx.specs.Operations.{Operation}
use Rattle.queue_tx.specs.Queues.{KeyedAds, ad_at}
use Rattle.schedd_plan.specs.declared.plan.JobPlan.{JobPlan}
use Rattle.schedd_plan.specs.declared.plan.JobPlan.TheVariants as plan
use Rattle.schedd_state.specs.declared.answer.ScheddStep.{ScheddStep}
use Rattle.schedd_core.specs.JobStates.{NamesRun}
use Rattle.schedd_core.specs.Logging.{after_plan, mails_of_plan, numbered}
use Rattle.schedd_core.specs.PlanChanges.{Jobs, how_of, moves_of_mail}
use Rattle.schedd_core.specs.Rows.{after_mail}
use Rattle.schedd_state.specs.Schedds.{ScheddValue}
use Rattle.pool_rules.specs.PoolParts.{Awaited, NewJobs, Planned, PoolParts}

-- ---- an event that may plan something
abbrev pub planned_by : Option JobPlan → Option Awaited
planned_by None = None
planned_by (Some p) = Some (Planned p)

-- the schedd stands so, has sent mails, and may have planned something; jobs were ordered to be
-- removed
abbrev pub parts_with_schedd : ScheddValue → ScheddStep → List JobId → PoolParts → PoolParts
parts_with_schedd v step orders a = record a {
  schedd = v;
  mails = a.mails ++ step.mails;
  awaited = planned_by step.plan;
  ordered = orders ++ a.ordered;
}

-- the job whose removal an order plans
abbrev pub job_removed : Option JobPlan → List JobId
job_removed None = []
job_removed (Some (plan.Remove job)) = job ∷ []
job_removed (Some (plan.MarkRemoved job)) = job ∷ []
job_removed (Some _) = []

-- an order to remove a job that has left the queue is one too
abbrev pub late_order : (JobId → Option Entry) → Mail → List JobId
late_order finished (mail.Remove job) = if is_some (finished job) then job ∷ [] else []
late_order finished _ = []

abbrev pub orders_of : Mail → Option JobPlan → List JobId
orders_of (mail.Remove job) p = job_removed p
orders_of _ p = []

abbrev pub orders_of_mail : PoolParts → Mail → ℕ → List JobId
orders_of_mail a m reading = orders_of m (after_mail a.schedd a.queue m reading).step.plan
    ++ late_order a.finished m

-- the pool has the job, or had it
abbrev pub is_known_by : Option Attributes → Option Entry → Bool
is_known_by None finished = is_some finished
is_known_by (Some ad) finished = is_some (kind_of ad)

abbrev pub is_known : PoolParts → JobId → Bool
is_known a job = is_known_by (ad_at (Proc job) a.queue) (a.finished job)

-- the moves of a mail
abbrev pub moves_of_schedd_mail : Jobs → PoolParts → Mail → ℕ → List ProtocolMove
moves_of_schedd_mail jobs a m reading = map TakeOrder (late_order a.finished m)
    ++ moves_of_mail jobs a.schedd a.queue m reading

-- ---- what was awaited is logged
-- the jobs that have left the queue, with that one
abbrev pub finished_with
    : (JobId → Option Entry) → JobId → Attributes → Outcome → JobId → Option Entry
finished_with finished job ad outcome =
    set same_job finished job (Some (record { core = core_of ad; state = Done outcome }))

-- a job has left the queue by the end of the run that its ad names, or by an order
abbrev pub LeavesBy : JobPlan → Attributes → Outcome → Type 0
LeavesBy (plan.Complete job completion) ad by = (claim : ClaimId) × (number : ℕ) × (end : ℕ)
    × NamesRun ad claim number end
    × (by ≡ outcome.EndedBy (numbered claim number) (how_of completion))
LeavesBy (plan.Remove job) ad by = by ≡ outcome.Removed
LeavesBy _ ad by = ⊥

abbrev pub TakesOut
    : JobPlan → JobId → KeyedAds → (JobId → Option Entry) → (JobId → Option Entry) → Type 0
TakesOut p job q old new = IsSomeAnd (ad_at (Proc job) q)
    (λ ad. (by : Outcome) × LeavesBy p ad by × (new ≡ finished_with old job ad by))

-- what a plan makes of the jobs that have left a queue
abbrev pub Finishes
    : JobPlan → KeyedAds → (JobId → Option Entry) → (JobId → Option Entry) → Type 0
Finishes (plan.Complete job completion) q old new =
    TakesOut (plan.Complete job completion) job q old new
Finishes (plan.Remove job) q old new = TakesOut (plan.Remove job) job q old new
Finishes _ q old new = new ≡ old

-- an ad names a run
abbrev pub NamesSomeRun : Attributes → Type 0
NamesSomeRun ad = (claim : ClaimId) × (number : ℕ) × (end : ℕ) × NamesRun ad claim number end

-- a plan is logged, with the queue that came of it
abbrev pub parts_with_plan : JobPlan → KeyedAds → (JobId → Option Entry) → PoolParts → PoolParts
parts_with_plan p new finished a = record a {
  schedd = after_plan p a.schedd;
  queue = new;
  mails = a.mails ++ mails_of_plan a.schedd new p;
  awaited = None;
  finished = finished;
}

-- a submission is logged, and its jobs are acknowledged
abbrev pub parts_with_jobs : List JobId → KeyedAds → PoolParts → PoolParts
parts_with_jobs ids new a = record a {
  queue = new;
  awaited = None;
  acked = ids ++ a.acked;
}

-- ---- the schedd comes back
abbrev pub parts_with_return
    : ScheddValue → KeyedAds → (JobId → Option Entry) → PoolParts → PoolParts
parts_with_return v new finished a =
    record a { schedd = v; queue = new; awaited = None; finished = finished }

-- ---- a submission
-- the job is none of these
abbrev pub IsNotAmong : JobId → List JobId → Type 0
IsNotAmong job [] = Unit {0}
IsNotAmong job (other ∷ jobs) = (job ≢ other) × IsNotAmong job jobs

-- none of the jobs is in the queue, none has left it, and no two are one
abbrev pub AreNewJobs : KeyedAds → (JobId → Option Entry) → List JobId → Type 0
AreNewJobs q finished [] = Unit {0}
AreNewJobs q finished (job ∷ jobs) = (ad_at (Proc job) q ≡ None) × (finished job ≡ None)
    × IsNotAmong job jobs × AreNewJobs q finished jobs

abbrev pub parts_with_submission : List JobId → List Operation → PoolParts → PoolParts
parts_with_submission ids tx a = record a { awaited = Some (NewJobs ids tx) }

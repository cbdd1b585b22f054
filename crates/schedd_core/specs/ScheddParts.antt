-- A schedd as a part of the protocol, and how it fits its queue.
use Rattle.std.specs.Prelude.{◌≡◌, ◌≢◌, ℕ, ◌≤◌, true, false, List, [], ◌∷◌, Some, Ok, IsSome, IsSomeAnd, MatchOption}
use Rattle.ad_tree.specs.Ad.{Attributes, AreDistinct}
use Rattle.claim_id.specs.declared.numbers.ClaimId.{ClaimId}
use Rattle.claim_id.specs.declared.numbers.JobId.{JobId}
use Rattle.claim_id.specs.declared.numbers.RunNo.{RunNo}
use Rattle.claim_id.specs.Texts.{IsClaim}
use Rattle.pool_mail.specs.declared.mail.Mail.{Mail}
use Rattle.pool_mail.specs.declared.mail.Mail.TheVariants as mail
use Rattle.pool_mail.specs.Ads.{request_ad}
use Rattle.pool_view.specs.Protocol.{Lease, Protocol}
use Rattle.pool_view.specs.AbstractPool.{IsIn}
use Rattle.pool_view.specs.Ads.{core_of}
use Rattle.queue_tx.specs.declared.key.Key.{Key}
use Rattle.queue_tx.specs.declared.key.Key.TheVariants.{Proc}
use Rattle.queue_tx.specs.declared.kind.JobKind.TheVariants.{Under}
use Rattle.queue_tx.specs.Kinds.{kind_of}
use Rattle.queue_tx.specs.Queues.{KeyedAds, IsQueue, ad_at, queue_after}
use Rattle.schedd_plan.specs.declared.plan.JobPlan.{JobPlan}
use Rattle.schedd_plan.specs.declared.plan.JobPlan.TheVariants as plan
use Rattle.schedd_plan.specs.declared.status.JobStatus.TheVariants as status
use Rattle.schedd_plan.specs.Plans.{job_of, plan_ops}
use Rattle.schedd_plan.specs.JobAttributes.{status_of}
use Rattle.schedd_plan.specs.declared.claims.KeptClaim.{KeptClaim}
use Rattle.schedd_plan.specs.declared.runs.KeptRun.{KeptRun}
use Rattle.schedd_plan.specs.JobPlaces.{is_left}
use Rattle.schedd_core.specs.JobStates.{NamesRun, ShowsJobs}
use Rattle.schedd_core.specs.Logging.{after_plan, is_stopped, numbered}
use Rattle.schedd_state.specs.Reopening.{is_under_at}
use Rattle.schedd_state.specs.Schedds.{ScheddValue, After}

-- ---- the part of the protocol that a schedd and its queue are
-- a job that is under a claim is marked as one to be removed
abbrev pub IsMarked : KeyedAds → JobId → Type 0
IsMarked q job = IsSomeAnd (ad_at (Proc job) q)
    (λ ad. (status_of ad ≡ status.Removed) × (kind_of ad ≡ Some Under))

pub record IsPart (p : Protocol) (q : KeyedAds) (v : ScheddValue) : Type 0 where
  pub jobs : ShowsJobs q v.left p.pool.jobs
  pub next : p.pool.next ≡ v.next_run
  pub marked : (job : JobId) → IsMarked q job → IsIn job p.removals

-- what a startd says that a run is over was said
abbrev pub IsHeard : Protocol → Mail → Type 0
IsHeard p (mail.Gone run kept) = IsIn run p.gone
IsHeard p (mail.Ended run how) = (job : JobId)
    × IsIn (record { run = run; job = job; how = how }) p.pool.reports
IsHeard p _ = Unit {0}

-- ---- how a schedd fits its queue
-- the queue as logged has the job under that run, of this boot of the pool
abbrev pub IsUnderRun : KeyedAds → List JobId → KeptRun → Type 0
IsUnderRun q left r = IsSomeAnd (ad_at (Proc r.job) q)
    (λ ad. (is_left r.job left ≡ false) × ((end : ℕ) × NamesRun ad r.claim r.number end))

-- no two runs are of one job
abbrev pub AreOfDifferentJobs : List KeptRun → Type 0
AreOfDifferentJobs [] = Unit {0}
AreOfDifferentJobs (r ∷ rs) =
    ((s : KeptRun) → IsIn s rs → s.job ≢ r.job) × AreOfDifferentJobs rs

-- the names of each ad of the queue differ
abbrev pub DoNamesDiffer : KeyedAds → Type 0
DoNamesDiffer q = (key : Key) (ad : Attributes) → ad_at key q ≡ Some ad → AreDistinct ad

pub record IsOrdered (q : KeyedAds) : Type 0 where
  pub keys : IsQueue q
  pub names : DoNamesDiffer q

pub record FitsWith (q : KeyedAds) (left : List JobId) (runs : List KeptRun)
    (claims : List KeptClaim) : Type 0 where
  pub queue : IsOrdered q
  pub each : (r : KeptRun) → IsIn r runs → IsUnderRun q left r
  pub one : AreOfDifferentJobs runs
  -- each job under a claim is one that was left, or has its run
  pub all : (job : JobId) → is_under_at q job ≡ true → is_left job left ≡ false
      → (r : KeptRun) × IsIn r runs × (r.job ≡ job)
  pub under : (job : JobId) → IsIn job left → is_under_at q job ≡ true
  pub valid : (c : KeptClaim) → IsIn c claims → IsClaim c.claim

abbrev pub Fits : KeyedAds → ScheddValue → Type 0
Fits q v = FitsWith q v.left v.runs v.claims

-- the queue has the job
abbrev pub IsThere : KeyedAds → JobId → Type 0
IsThere q job = IsSomeAnd (ad_at (Proc job) q) (λ ad. IsSome (kind_of ad))

-- A plan is of a job of the queue: one that marks it, or lengthens its lease, of one that is under
-- a claim, one that takes it out by its end of one that wasn't left.
abbrev pub IsFitting : KeyedAds → List JobId → JobPlan → Type 0
IsFitting q left (plan.PutIdle job) = IsThere q job
IsFitting q left (plan.PutHeld job reason) = IsThere q job
IsFitting q left (plan.Complete job completion) =
    (is_under_at q job ≡ true) × (is_left job left ≡ false)
IsFitting q left (plan.Remove job) = IsThere q job
IsFitting q left (plan.MarkRemoved job) = is_under_at q job ≡ true
IsFitting q left (plan.MarkHeld job reason) = is_under_at q job ≡ true
IsFitting q left (plan.MarkRunning job) = is_under_at q job ≡ true
IsFitting q left (plan.Lengthen job until) = is_under_at q job ≡ true
IsFitting q left (plan.Grant job claim number until header) = IsThere q job
    × (is_left job left ≡ false) × IsClaim claim

-- the schedd after an event fits the queue: as it is, or once what is to be logged is
abbrev pub FitsOn : KeyedAds → After → Type 0
FitsOn q a = MatchOption a.step.plan
    (Fits q a.schedd)
    (λ p. IsFitting q a.schedd.left p
    × ((new : KeyedAds) → queue_after q (plan_ops p) ≡ Ok new
    → Fits new (after_plan p a.schedd)))

-- what is told of a claim is a claim
abbrev pub IsOfClaim : Mail → Type 0
IsOfClaim (mail.Matched found) = IsClaim found.claim
IsOfClaim _ = Unit {0}

-- ---- what may be sent once a plan is logged
-- the queue has the job under that run, with a lease that ends then
abbrev pub IsRunIn : KeyedAds → JobId → RunNo → ℕ → Type 0
IsRunIn q job run end = IsSomeAnd (ad_at (Proc job) q)
    (λ ad. (claim : ClaimId) × (claim.no ≡ run.claim) × NamesRun ad claim run.number end)

-- the plan is the grant of that run to that job, with that end of its lease
abbrev pub IsGrantOf : JobPlan → RunNo → JobId → ℕ → Type 0
IsGrantOf (plan.Grant job claim number until header) run other end =
    (other ≡ job) × (run ≡ numbered claim number) × (end ≡ until)
IsGrantOf _ run other end = ⊥

-- An Activate only of the grant that is in the queue, with the job's ad there; an Alive and a Stop
-- only of the run that the queue has the plan's job under, with its lease there, and a Stop only of
-- a job that is marked.
abbrev pub IsAllowed : KeyedAds → JobPlan → Mail → Type 0
IsAllowed q p (mail.Activate run job ad until) = IsGrantOf p run job until
    × IsRunIn q job run until
    × IsSomeAnd (ad_at (Proc job) q) (λ logged. ad ≡ request_ad logged)
IsAllowed q p (mail.Alive run until) = IsRunIn q (job_of p) run until
IsAllowed q p (mail.Stop run) = (is_stopped q (job_of p) ≡ true)
    × ((end : ℕ) × IsRunIn q (job_of p) run end)
IsAllowed q p _ = ⊥

-- an Activate and an Alive that were sent have their lease
abbrev pub IsLeased : Protocol → Mail → Type 0
IsLeased p (mail.Activate run job ad until) = (l : Lease) × IsIn l p.leases
    × (l.run ≡ run) × (l.job ≡ job) × (l.core ≡ core_of ad) × (until ≤ l.until)
IsLeased p (mail.Alive run until) =
    (l : Lease) × IsIn l p.leases × (l.run ≡ run) × (until ≤ l.until)
IsLeased p _ = Unit {0}

-- ---- leases in the queue
-- the lease of a run that a job is still under ends no sooner
abbrev pub LeasesGrow : KeyedAds → KeyedAds → Type 0
LeasesGrow q new = (job : JobId) (run : RunNo) (old end : ℕ)
    → IsRunIn q job run old → IsRunIn new job run end → old ≤ end

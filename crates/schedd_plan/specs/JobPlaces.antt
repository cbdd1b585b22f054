-- Where a job stands by the queue as logged, and what becomes of it when it is let go.
use Rattle.std.specs.Prelude.{Bool, true, false, not, List, filter, Option, Some, None, if◌then◌else◌}
use Rattle.std.specs.List.{list_any}
use Rattle.ad_tree.specs.Ad.{Attributes}
use Rattle.claim_id.specs.declared.numbers.JobId.{JobId}
use Rattle.pool_view.specs.Numbers.{same_job}
use Rattle.queue_tx.specs.declared.key.Key.TheVariants.{Proc}
use Rattle.queue_tx.specs.declared.kind.JobKind.{JobKind}
use Rattle.queue_tx.specs.declared.kind.JobKind.TheVariants as kind
use Rattle.queue_tx.specs.Kinds.{kind_of}
use Rattle.queue_tx.specs.Queues.{KeyedAds, ad_at}
use Rattle.schedd_plan.specs.declared.plan.JobPlan.{JobPlan}
use Rattle.schedd_plan.specs.declared.plan.JobPlan.TheVariants.{PutIdle, PutHeld, Remove}
use Rattle.schedd_plan.specs.declared.status.JobStatus.{JobStatus}
use Rattle.schedd_plan.specs.declared.status.JobStatus.TheVariants as status
use Rattle.schedd_plan.specs.JobAttributes.{status_of, reason_of}
use Rattle.schedd_plan.specs.declared.places.JobPlace.{JobPlace}
use Rattle.schedd_plan.specs.declared.places.JobPlace.TheVariants.{Nowhere, Idle, Held, Left, Under}

-- the job was left by an earlier boot of the pool
abbrev pub is_left : JobId → List JobId → Bool
is_left job left = list_any (λ other. same_job other job) left

-- a job is no longer one that was left
abbrev pub taken_off : JobId → List JobId → List JobId
taken_off job left = filter (λ other. not (same_job other job)) left

abbrev pub kind_place : Option JobKind → Bool → JobStatus → JobPlace
kind_place None left st = Nowhere
kind_place (Some kind.Idle) left st = Idle
kind_place (Some kind.Held) left st = Held
kind_place (Some kind.Under) left st = if left then Left st else Under st

abbrev pub place_in : Bool → Attributes → JobPlace
place_in left ad = kind_place (kind_of ad) left (status_of ad)

abbrev pub place_by : Bool → Option Attributes → JobPlace
place_by left None = Nowhere
place_by left (Some ad) = place_in left ad

abbrev pub job_place : KeyedAds → List JobId → JobId → JobPlace
job_place q left job = place_by (is_left job left) (ad_at (Proc job) q)

abbrev pub is_idle : Option JobKind → Bool
is_idle None = false
is_idle (Some kind.Idle) = true
is_idle (Some kind.Held) = false
is_idle (Some kind.Under) = false

abbrev pub is_idle_by : Option Attributes → Bool
is_idle_by None = false
is_idle_by (Some ad) = is_idle (kind_of ad)

abbrev pub is_idle_at : KeyedAds → JobId → Bool
is_idle_at q job = is_idle_by (ad_at (Proc job) q)

-- ---- let go: JobStatus 5 is held, 3 finished as removed, any other idle
abbrev pub let_go_by : JobStatus → JobId → Attributes → JobPlan
let_go_by status.Held job ad = PutHeld job (reason_of ad)
let_go_by status.Removed job ad = Remove job
let_go_by status.Idle job ad = PutIdle job
let_go_by status.Running job ad = PutIdle job
let_go_by status.Completed job ad = PutIdle job
let_go_by status.Other job ad = PutIdle job

abbrev pub let_go_ad : JobId → Attributes → JobPlan
let_go_ad job ad = let_go_by (status_of ad) job ad

abbrev pub let_go_in : Option Attributes → JobId → JobPlan
let_go_in None job = PutIdle job
let_go_in (Some ad) job = let_go_ad job ad

abbrev pub let_go : KeyedAds → JobId → JobPlan
let_go q job = let_go_in (ad_at (Proc job) q) job

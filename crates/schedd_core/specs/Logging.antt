-- What is sent and forgotten once a plan is logged, and what the schedd is when it comes back.
use Rattle.std.specs.Prelude.{◌≡◌, ℕ, ◌+◌, Bool, true, false, List, [], ◌∷◌, Option, Some, None, slice_get}
use Rattle.std.specs.Map.{remove_entry}
use Rattle.ad_tree.specs.Ad.{Attributes}
use Rattle.claim_id.specs.declared.numbers.ClaimId.{ClaimId}
use Rattle.claim_id.specs.declared.numbers.JobId.{JobId}
use Rattle.claim_id.specs.declared.numbers.RunNo.{RunNo}
use Rattle.pool_mail.specs.Ads.{request_ad}
use Rattle.pool_mail.specs.declared.mail.Mail.{Mail}
use Rattle.pool_mail.specs.declared.mail.Mail.TheVariants as mail
use Rattle.queue_tx.specs.declared.key.Key.TheVariants.{Proc}
use Rattle.queue_tx.specs.Keys.{same_key}
use Rattle.queue_tx.specs.Queues.{KeyedAds, ad_at}
use Rattle.schedd_plan.specs.declared.plan.JobPlan.{JobPlan}
use Rattle.schedd_plan.specs.declared.plan.JobPlan.TheVariants as plan
use Rattle.schedd_plan.specs.declared.status.JobStatus.{JobStatus}
use Rattle.schedd_plan.specs.declared.status.JobStatus.TheVariants as status
use Rattle.schedd_plan.specs.JobAttributes.{status_of}
use Rattle.schedd_plan.specs.declared.runs.KeptRun.{KeptRun}
use Rattle.schedd_plan.specs.JobPlaces.{taken_off}
use Rattle.schedd_plan.specs.KeptRuns.{run_of, place_of_job}
use Rattle.schedd_state.specs.Reopening.{IsReader, found_runs, found_claims, still_left, next_after}
use Rattle.schedd_state.specs.Searches.{AreUnder}
use Rattle.schedd_state.specs.Schedds.{ScheddValue, After, becomes, says}

-- ---- what is sent
abbrev pub run_in : Option KeptRun → Option RunNo
run_in None = None
run_in (Some r) = Some (run_of r)

abbrev pub run_at_place : List KeptRun → Option ℕ → Option RunNo
run_at_place runs None = None
run_at_place runs (Some place) = run_in (slice_get runs place)

-- the run that a job is under
abbrev pub run_of_job : List KeptRun → JobId → Option RunNo
run_of_job runs job = run_at_place runs (place_of_job job runs)

abbrev pub stops : Option RunNo → List Mail
stops None = []
stops (Some run) = mail.Stop run ∷ []

abbrev pub is_marked : JobStatus → Bool
is_marked status.Idle = false
is_marked status.Running = false
is_marked status.Removed = true
is_marked status.Completed = false
is_marked status.Held = true
is_marked status.Other = false

abbrev pub is_stopped_by : Option Attributes → Bool
is_stopped_by None = false
is_stopped_by (Some ad) = is_marked (status_of ad)

-- the job is to be held or removed once its run has ended
abbrev pub is_stopped : KeyedAds → JobId → Bool
is_stopped q job = is_stopped_by (ad_at (Proc job) q)

abbrev pub stop_where : Bool → RunNo → List Mail
stop_where true run = mail.Stop run ∷ []
stop_where false run = []

abbrev pub alives : Option RunNo → Bool → ℕ → List Mail
alives None stopped until = []
alives (Some run) stopped until = mail.Alive run until ∷ stop_where stopped run

-- the run is to start, with the job's ad as logged
abbrev pub activates : Option Attributes → RunNo → JobId → ℕ → List Mail
activates None run job until = []
activates (Some ad) run job until = mail.Activate run job (request_ad ad) until ∷ []

abbrev pub numbered : ClaimId → ℕ → RunNo
numbered claim number = record { claim = claim.no; number = number }

unfoldable pub mails_of_plan : ScheddValue → KeyedAds → JobPlan → List Mail
mails_of_plan v q (plan.PutIdle job) = []
mails_of_plan v q (plan.PutHeld job reason) = []
mails_of_plan v q (plan.Complete job completion) = []
mails_of_plan v q (plan.Remove job) = []
mails_of_plan v q (plan.MarkRemoved job) = stops (run_of_job v.runs job)
mails_of_plan v q (plan.MarkHeld job reason) = stops (run_of_job v.runs job)
mails_of_plan v q (plan.MarkRunning job) = []
mails_of_plan v q (plan.Lengthen job until) =
    alives (run_of_job v.runs job) (is_stopped q job) until
mails_of_plan v q (plan.Grant job claim number until header) =
    activates (ad_at (Proc job) q) (numbered claim number) job until

-- ---- what is forgotten
abbrev pub let_off : JobId → ScheddValue → ScheddValue
let_off job v = record v { left = taken_off job v.left; waiting = None }

abbrev pub finished : JobId → ScheddValue → ScheddValue
finished job v = record v {
  left = taken_off job v.left;
  checked = remove_entry (same_key (Proc job)) v.checked;
  waiting = None;
}

unfoldable pub after_plan : JobPlan → ScheddValue → ScheddValue
after_plan (plan.PutIdle job) v = let_off job v
after_plan (plan.PutHeld job reason) v = let_off job v
after_plan (plan.Complete job completion) v = finished job v
after_plan (plan.Remove job) v = finished job v
after_plan (plan.MarkRemoved job) v = record v { waiting = None }
after_plan (plan.MarkHeld job reason) v = record v { waiting = None }
after_plan (plan.MarkRunning job) v = record v { waiting = None }
after_plan (plan.Lengthen job until) v = record v { waiting = None }
after_plan (plan.Grant job claim number until header) v =
    record v { next_run = number + 1; waiting = None }

-- ---- what waited is logged, with the queue that came of it
abbrev pub after_logged : ScheddValue → KeyedAds → Option JobPlan → After
after_logged v q None = becomes v
after_logged v q (Some p) = record {
  schedd = after_plan p v;
  step = says (mails_of_plan v q p);
}

-- ---- the schedd comes back, with the queue as logged
abbrev pub with_found
    : (List ℕ → Option ClaimId) → KeyedAds → ℕ → List JobId → List KeptRun → ScheddValue
    → ScheddValue
with_found read q reading left runs v = record v {
  next_run = next_after q v.waiting v.next_run;
  left = left;
  claims = found_claims q runs;
  runs = runs;
  checked = [];
  passed = None;
  waiting = None;
}

-- of which these jobs are under a claim
unfoldable pub reopened
    : (List ℕ → Option ClaimId) → List JobId → KeyedAds → ℕ → ScheddValue → ScheddValue
reopened read jobs q reading v = with_found read q reading (still_left q v.left)
    (found_runs read q (still_left q v.left) reading jobs) v

pub record IsReopened (v : ScheddValue) (q : KeyedAds) (reading : ℕ) (new : ScheddValue)
    : Type 0 where
  pub jobs : List JobId
  pub under : AreUnder q None jobs
  pub schedd : (read : List ℕ → Option ClaimId) → IsReader read
      → new ≡ reopened read jobs q reading v

-- The periodic expressions of a job (HTCondor manual, condor_submit, periodic_hold,
-- periodic_remove, periodic_release).
use Rattle.std.specs.Prelude.{ℕ, ◌&&◌, Option, Some, None, if◌then◌else◌}
use Rattle.std.specs.BTreeMap.{insert_entry}
use Rattle.ad_value.specs.declared.names.job.TheConstants.{PERIODIC_HOLD, PERIODIC_REMOVE, PERIODIC_RELEASE}
use Rattle.ad_tree.specs.Ad.{Attributes}
use Rattle.claim_id.specs.declared.numbers.JobId.{JobId}
use Rattle.queue_tx.specs.declared.key.Key.TheVariants.{Proc}
use Rattle.queue_tx.specs.Keys.{key_cmp}
use Rattle.queue_tx.specs.Queues.{KeyedAds, ad_at}
use Rattle.schedd_plan.specs.declared.plan.JobPlan.{JobPlan}
use Rattle.schedd_plan.specs.declared.reason.Reason.TheVariants.{ByPolicy}
use Rattle.schedd_plan.specs.declared.places.JobPlace.{JobPlace}
use Rattle.schedd_plan.specs.EndTable.{is_asked_by}
use Rattle.schedd_plan.specs.JobPlaces.{job_place}
use Rattle.schedd_plan.specs.OrderTable.{remove_plan, hold_plan, resume_plan, can_be_held, is_waiting}
use Rattle.schedd_state.specs.Schedds.{ScheddValue, After, becomes, waits_for}

-- ---- what it does
-- the first that holds: PeriodicHold, PeriodicRemove, PeriodicRelease
abbrev pub policy_plan : JobPlace → JobId → Attributes → ℕ → Option JobPlan
policy_plan place job attributes reading =
    if can_be_held place && is_asked_by attributes reading PERIODIC_HOLD.now
    then hold_plan place job ByPolicy
    else (if is_asked_by attributes reading PERIODIC_REMOVE.now
    then remove_plan place job
    else (if is_waiting place && is_asked_by attributes reading PERIODIC_RELEASE.now
    then resume_plan place job
    else None))

abbrev pub with_look : JobId → ℕ → ScheddValue → ScheddValue
with_look job reading v =
    record v { checked = insert_entry key_cmp v.checked (Proc job) reading }

abbrev pub after_check_by : Option Attributes → ScheddValue → KeyedAds → JobId → ℕ → After
after_check_by None v q job reading = becomes v
after_check_by (Some attributes) v q job reading = waits_for
    (policy_plan (job_place q v.left job) job attributes reading) (with_look job reading v)

unfoldable pub after_check : ScheddValue → KeyedAds → JobId → ℕ → After
after_check v q job reading = after_check_by (ad_at (Proc job) q) v q job reading

-- What a schedd plans knows whether there is a header.
use Rattle.std.proofs.Common.{ℕ, Bool, true, false, cond, not, ◌&&◌, is_none, is_some, Option, Some, None, slice_get, refl, sym, subst}
use Rattle.std.specs.Prelude.{IfSome}
use Rattle.ad_value.specs.declared.names.job.TheConstants.{PERIODIC_HOLD, PERIODIC_REMOVE, PERIODIC_RELEASE}
use Rattle.ad_tree.specs.Ad.{Attributes}
use Rattle.claim_id.specs.declared.numbers.ClaimNo.{ClaimNo}
use Rattle.claim_id.specs.declared.numbers.JobId.{JobId}
use Rattle.claim_id.specs.declared.numbers.RunNo.{RunNo}
use Rattle.pool_mail.specs.declared.end.How.{How}
use Rattle.pool_mail.specs.declared.mail.Mail.{Mail}
use Rattle.pool_mail.specs.declared.mail.Mail.TheVariants as mail
use Rattle.pool_mail.specs.declared.matching.Match.{Match}
use Rattle.pool_mail.specs.declared.why.Why.{Why}
use Rattle.queue_tx.specs.declared.key.Key.{Key}
use Rattle.queue_tx.specs.declared.key.Key.TheVariants.{Header, Proc}
use Rattle.queue_tx.specs.Queues.{KeyedAds, ad_at}
use Rattle.schedd_plan.specs.declared.plan.JobPlan.{JobPlan}
use Rattle.schedd_plan.specs.declared.plan.JobPlan.TheVariants as plan
use Rattle.schedd_plan.specs.declared.reason.Reason.{Reason}
use Rattle.schedd_plan.specs.declared.reason.Reason.TheVariants.{ByCommand, ByPolicy}
use Rattle.schedd_plan.specs.declared.status.JobStatus.{JobStatus}
use Rattle.schedd_plan.specs.declared.status.JobStatus.TheVariants as status
use Rattle.schedd_state.specs.DueLines.{tick_line}
use Rattle.schedd_state.specs.Schedds.{ScheddValue, waits_for}
use Rattle.schedd_state.specs.declared.answer.ScheddStep.{ScheddStep}
use Rattle.schedd_plan.specs.EndTable.{ended_ad_plan, is_asked_by}
use Rattle.schedd_plan.specs.JobPlaces.{job_place, let_go}
use Rattle.schedd_plan.specs.KeptClaims.{engages, place_of_claim}
use Rattle.schedd_plan.specs.KeptRuns.{place_of_run}
use Rattle.schedd_plan.specs.MailTable.{denied_claim, denied_row, granted_at, granted_row, is_idle_place, is_spent_why, order_row}
use Rattle.schedd_plan.specs.OrderTable.{can_be_held, hold_left, hold_plan, hold_under, is_waiting, remove_plan, resume_marked, resume_plan}
use Rattle.schedd_plan.specs.declared.claims.KeptClaim.{KeptClaim}
use Rattle.schedd_plan.specs.declared.claims.Stage.{Stage}
use Rattle.schedd_plan.specs.declared.claims.Stage.TheVariants as stage
use Rattle.schedd_plan.specs.declared.mail.MailRow.{MailRow}
use Rattle.schedd_plan.specs.declared.mail.MailRow.TheVariants as row
use Rattle.schedd_plan.specs.declared.places.JobPlace.{JobPlace}
use Rattle.schedd_plan.specs.declared.places.JobPlace.TheVariants as place
use Rattle.schedd_plan.specs.declared.runs.KeptRun.{KeptRun}
use Rattle.schedd_plan.specs.declared.tick.TickLine.{TickLine}
use Rattle.schedd_plan.specs.declared.tick.TickLine.TheVariants as line
use Rattle.schedd_core.specs.Checks.{after_check, after_check_by, policy_plan, with_look}
use Rattle.schedd_core.specs.Rows.{after_mail, after_row, asked_in, ended_at, ended_with, gone_at, mail_row, run_at, seen_at, stage_known}
use Rattle.schedd_core.specs.Ticks.{IsTicked, after_grant, after_give_up, after_lengthen, after_line, after_past, granted_by, lengthened_by}
use Rattle.schedd_core.proofs.FitsAfter.{Frees}
use Rattle.schedd_core.proofs.Freed.{end_frees, let_go_frees}
use Rattle.pool_parts.specs.Loggable.{KnowsHeader}

-- what is planned, if anything, knows it
abbrev pub Knows : KeyedAds → Option JobPlan → Type 0
Knows q o = IfSome o (KnowsHeader q)

-- a plan that takes a job from its run, or out of the queue, is no grant
frees_knows : (q : KeyedAds) (job : JobId) (p : JobPlan) → Frees job p → KnowsHeader q p
frees_knows q k (plan.PutIdle job) h = tt
frees_knows q k (plan.PutHeld job reason) h = tt
frees_knows q k (plan.Complete job completion) h = tt
frees_knows q k (plan.Remove job) h = tt
frees_knows q k (plan.MarkRemoved job) h = tt
frees_knows q k (plan.MarkHeld job reason) h = tt
frees_knows q k (plan.MarkRunning job) h = tt
frees_knows q k (plan.Lengthen job until) h = tt
frees_knows q k (plan.Grant job claim number until header) h = absurd h

let_go_knows : (q : KeyedAds) (job : JobId) → KnowsHeader q (let_go q job)
let_go_knows q job = frees_knows q job (let_go q job) (let_go_frees q job)

-- ---- orders
remove_knows : (q : KeyedAds) (at : JobPlace) (job : JobId) → Knows q (remove_plan at job)
remove_knows q place.Nowhere job = tt
remove_knows q place.Idle job = tt
remove_knows q place.Held job = tt
remove_knows q (place.Left st) job = tt
remove_knows q (place.Under st) job = tt

left_knows : (q : KeyedAds) (st : JobStatus) (job : JobId) (reason : Reason) → Knows q (hold_left st job reason)
left_knows q status.Idle job reason = tt
left_knows q status.Running job reason = tt
left_knows q status.Removed job reason = tt
left_knows q status.Completed job reason = tt
left_knows q status.Held job reason = tt
left_knows q status.Other job reason = tt

under_knows : (q : KeyedAds) (st : JobStatus) (job : JobId) (reason : Reason) → Knows q (hold_under st job reason)
under_knows q status.Idle job reason = tt
under_knows q status.Running job reason = tt
under_knows q status.Removed job reason = tt
under_knows q status.Completed job reason = tt
under_knows q status.Held job reason = tt
under_knows q status.Other job reason = tt

hold_knows : (q : KeyedAds) (at : JobPlace) (job : JobId) (reason : Reason) → Knows q (hold_plan at job reason)
hold_knows q place.Nowhere job reason = tt
hold_knows q place.Idle job reason = tt
hold_knows q place.Held job reason = tt
hold_knows q (place.Left st) job reason = left_knows q st job reason
hold_knows q (place.Under st) job reason = under_knows q st job reason

marked_knows : (q : KeyedAds) (st : JobStatus) (job : JobId) → Knows q (resume_marked st job)
marked_knows q status.Idle job = tt
marked_knows q status.Running job = tt
marked_knows q status.Removed job = tt
marked_knows q status.Completed job = tt
marked_knows q status.Held job = tt
marked_knows q status.Other job = tt

resume_knows : (q : KeyedAds) (at : JobPlace) (job : JobId) → Knows q (resume_plan at job)
resume_knows q place.Nowhere job = tt
resume_knows q place.Idle job = tt
resume_knows q place.Held job = tt
resume_knows q (place.Left st) job = marked_knows q st job
resume_knows q (place.Under st) job = marked_knows q st job

-- ---- the rows of mails
abbrev RowKnows : KeyedAds → MailRow → Type 0
RowKnows q (row.Free place pl claim f) = KnowsHeader q pl
RowKnows q (row.Order pl) = KnowsHeader q pl
RowKnows q _ = Unit {0}

row_knows : (v : ScheddValue) (q : KeyedAds) (r : MailRow) (reading : ℕ) → RowKnows q r → Knows q (after_row v q r reading).step.plan
unfolding after_row
row_knows v q row.Nothing reading h = tt
row_knows v q (row.Ask claim job by_priority) reading h = by (ad_at (Proc job) q)
  where
    by : (o : Option Attributes) → Knows q (asked_in o v claim job by_priority reading).step.plan
    by None = tt
    by (Some ad) = tt
row_knows v q (row.Ready at) reading h = tt
row_knows v q (row.Release claim) reading h = tt
row_knows v q (row.Forget at) reading h = tt
row_knows v q (row.Leave at) reading h = tt
row_knows v q (row.Note at) reading h = tt
row_knows v q (row.Free at pl claim f) reading h = h
row_knows v q (row.Order pl) reading h = h

order_knows : (q : KeyedAds) (o : Option JobPlan) → Knows q o → RowKnows q (order_row o)
order_knows q None h = tt
order_knows q (Some pl) h = h

matched_knows : (q : KeyedAds) (b : Bool) (found : Match) → RowKnows q (cond b (row.Ask found.claim found.job found.by_priority) row.Nothing)
matched_knows q true found = tt
matched_knows q false found = tt

granted_knows : (q : KeyedAds) (o : Option (ℕ × Stage)) (claim : ClaimNo) → RowKnows q (granted_row o claim)
granted_knows q None claim = tt
granted_knows q (Some known) claim = by known.1
  where
    by : (s : Stage) → RowKnows q (granted_at known.0 s)
    by (stage.Asked at) = tt
    by stage.Ready = tt
    by stage.Leaving = tt

denied_knows : (q : KeyedAds) (o : Option (ℕ × Stage)) (of_run : Bool) (w : Why) → RowKnows q (denied_row o of_run w)
denied_knows q None of_run w = tt
denied_knows q (Some known) true w = by (is_spent_why w)
  where
    by : (b : Bool) → RowKnows q (cond b row.Nothing (row.Leave known.0))
    by true = tt
    by false = tt
denied_knows q (Some known) false w = by known.1
  where
    by : (s : Stage) → RowKnows q (denied_claim known.0 s)
    by (stage.Asked at) = tt
    by stage.Ready = tt
    by stage.Leaving = tt

seen_knows : (q : KeyedAds) (o : Option ℕ) → RowKnows q (seen_at o)
seen_knows q None = tt
seen_knows q (Some at) = tt

gone_knows : (q : KeyedAds) (o : Option (ℕ × JobId)) (run : RunNo) (kept : Bool) → RowKnows q (gone_at o q run kept)
gone_knows q None run kept = tt
gone_knows q (Some known) run kept = let_go_knows q known.1

ended_knows : (q : KeyedAds) (o : Option (ℕ × JobId)) (run : RunNo) (h : How) (reading : ℕ) → RowKnows q (ended_at o q run h reading)
ended_knows q None run h reading = tt
ended_knows q (Some known) run h reading = by (ad_at (Proc known.1) q)
  where
    by : (o : Option Attributes) → RowKnows q (ended_with o known run h reading)
    by None = tt
    by (Some ad) = frees_knows q known.1 (ended_ad_plan known.1 ad h reading) (end_frees known.1 ad h reading)

mail_row_knows : (v : ScheddValue) (q : KeyedAds) (m : Mail) (reading : ℕ) → RowKnows q (mail_row v q m reading)
unfolding mail_row
mail_row_knows v q (mail.Update slot) reading = tt
mail_row_knows v q (mail.Matched found) reading =
    matched_knows q ((is_idle_place (job_place q v.left found.job) && not (engages found.job v.claims)) && is_none (place_of_claim found.claim.no v.claims)) found
mail_row_knows v q (mail.Ask claim job ad by_priority) reading = tt
mail_row_knows v q (mail.Granted claim job) reading = granted_knows q (stage_known v claim.no) claim.no
mail_row_knows v q (mail.Denied claim run job why) reading = denied_knows q (stage_known v claim) (is_some run) why
mail_row_knows v q (mail.Activate run job ad until) reading = tt
mail_row_knows v q (mail.Alive run until) reading = tt
mail_row_knows v q (mail.Seen run until) reading = seen_knows q (place_of_run run v.runs)
mail_row_knows v q (mail.Stop run) reading = tt
mail_row_knows v q (mail.Release claim) reading = tt
mail_row_knows v q (mail.Gone run kept) reading = gone_knows q (run_at v.runs (place_of_run run v.runs)) run kept
mail_row_knows v q (mail.Ended run how) reading = ended_knows q (run_at v.runs (place_of_run run v.runs)) run how reading
mail_row_knows v q (mail.Remove job) reading = order_knows q (remove_plan (job_place q v.left job) job) (remove_knows q (job_place q v.left job) job)
mail_row_knows v q (mail.Hold job) reading = order_knows q (hold_plan (job_place q v.left job) job ByCommand) (hold_knows q (job_place q v.left job) job ByCommand)
mail_row_knows v q (mail.Resume job) reading = order_knows q (resume_plan (job_place q v.left job) job) (resume_knows q (job_place q v.left job) job)

pub mail_knows : (v : ScheddValue) (q : KeyedAds) (m : Mail) (reading : ℕ) → Knows q (after_mail v q m reading).step.plan
mail_knows v q m reading = row_knows v q (mail_row v q m reading) reading (mail_row_knows v q m reading)

-- ---- ticks
grant_knows : (v : ScheddValue) (q : KeyedAds) (at : ℕ) (o : Option KeptClaim) (job : JobId) (reading : ℕ) → Knows q (after_grant v q at o job reading).step.plan
grant_knows v q at None job reading = tt
grant_knows v q at (Some c) job reading = by (ad_at (Proc job) q)
  where
    by : (o : Option Attributes) → Knows q (granted_by o v (is_some (ad_at Header q)) at c job reading).step.plan
    by None = tt
    by (Some ad) = refl

give_up_knows : (v : ScheddValue) (q : KeyedAds) (at : ℕ) (o : Option KeptClaim) → Knows q (after_give_up v at o).step.plan
give_up_knows v q at None = tt
give_up_knows v q at (Some c) = tt

past_knows : (v : ScheddValue) (q : KeyedAds) (at : ℕ) (o : Option KeptRun) → Knows q (after_past v q at o).step.plan
past_knows v q at None = tt
past_knows v q at (Some r) = let_go_knows q r.job

lengthen_knows : (v : ScheddValue) (q : KeyedAds) (at : ℕ) (o : Option KeptRun) (reading : ℕ) → Knows q (after_lengthen v q at o reading).step.plan
lengthen_knows v q at None reading = tt
lengthen_knows v q at (Some r) reading = by (ad_at (Proc r.job) q)
  where
    by : (o : Option Attributes) → Knows q (lengthened_by o v at r reading).step.plan
    by None = tt
    by (Some ad) = tt

line_knows : (v : ScheddValue) (q : KeyedAds) (l : TickLine) (found : Option Key) (reading : ℕ) → Knows q (after_line v q l found reading).step.plan
unfolding after_line
line_knows v q line.Nothing found reading = tt
line_knows v q (line.Left job) found reading = let_go_knows q job
line_knows v q (line.Past at) found reading = past_knows v q at (slice_get v.runs at)
line_knows v q (line.Lengthen at) found reading = lengthen_knows v q at (slice_get v.runs at) reading
line_knows v q (line.Regrant at job) found reading = grant_knows v q at (slice_get v.claims at) job reading
line_knows v q (line.Seek at) None reading = give_up_knows v q at (slice_get v.claims at)
line_knows v q (line.Seek at) (Some Header) reading = give_up_knows v q at (slice_get v.claims at)
line_knows v q (line.Seek at) (Some (Proc job)) reading = grant_knows v q at (slice_get v.claims at) job reading
line_knows v q (line.GiveUp at) found reading = give_up_knows v q at (slice_get v.claims at)

pub tick_knows : (v : ScheddValue) (q : KeyedAds) (reading : ℕ) (new : ScheddValue) (step : ScheddStep) → IsTicked v q reading new step → Knows q step.plan
tick_knows v q reading new step t = subst (λ (x : ScheddStep). Knows q x.plan) (sym t.done) (line_knows v q (tick_line v q reading) t.found reading)

-- ---- looks at periodic expressions
policy_knows : (q : KeyedAds) (at : JobPlace) (job : JobId) (hold remove resume : Bool)
    → Knows q (cond hold (hold_plan at job ByPolicy) (cond remove (remove_plan at job) (cond resume (resume_plan at job) None)))
policy_knows q at job true remove resume = hold_knows q at job ByPolicy
policy_knows q at job false true resume = remove_knows q at job
policy_knows q at job false false true = resume_knows q at job
policy_knows q at job false false false = tt

waits_knows : (q : KeyedAds) (o : Option JobPlan) (v : ScheddValue) → Knows q o → Knows q (waits_for o v).step.plan
waits_knows q None v h = tt
waits_knows q (Some pl) v h = h

pub check_knows : (v : ScheddValue) (q : KeyedAds) (job : JobId) (reading : ℕ) → Knows q (after_check v q job reading).step.plan
unfolding after_check
check_knows v q job reading = by (ad_at (Proc job) q)
  where
    by : (o : Option Attributes) → Knows q (after_check_by o v q job reading).step.plan
    by None = tt
    by (Some ad) =
        let at = job_place q v.left job in
        waits_knows q (policy_plan at job ad reading) (with_look job reading v)
        (policy_knows q at job (can_be_held at && is_asked_by ad reading PERIODIC_HOLD.now) (is_asked_by ad reading PERIODIC_REMOVE.now) (is_waiting at && is_asked_by ad reading PERIODIC_RELEASE.now))

-- A schedd that comes back is as if the event whose plan was lost had not been.
use Rattle.std.proofs.Common.{◌≡◌, ℕ, ◌+◌, Bool, true, false, cond, not, ◌&&◌, List, [], slice_get, Option, Some, None, is_some, is_none, refl, ap, sym, ◌∙◌, subst}
use Rattle.std.specs.BTreeMap.{insert_entry}
use Rattle.std.specs.Map.{lookup}
use Rattle.ad_value.specs.declared.names.job.TheConstants.{PERIODIC_HOLD, PERIODIC_REMOVE, PERIODIC_RELEASE}
use Rattle.ad_tree.specs.Ad.{Attributes}
use Rattle.claim_id.specs.declared.numbers.ClaimId.{ClaimId}
use Rattle.claim_id.specs.declared.numbers.JobId.{JobId}
use Rattle.pool_mail.specs.declared.mail.Mail.{Mail}
use Rattle.pool_mail.specs.declared.mail.Mail.TheVariants as mail
use Rattle.pool_mail.specs.declared.why.Why.{Why}
use Rattle.ordered_map.proofs.Maps.{lookup-insert_entry}
use Rattle.queue_tx.specs.declared.key.Key.{Key}
use Rattle.queue_tx.specs.declared.key.Key.TheVariants.{Header, Proc}
use Rattle.queue_tx.specs.Keys.{key_cmp, key_cmp_total, same_key}
use Rattle.queue_tx.specs.Queues.{KeyedAds, ad_at}
use Rattle.schedd_plan.specs.declared.plan.JobPlan.{JobPlan}
use Rattle.schedd_plan.specs.declared.plan.JobPlan.TheVariants as plan
use Rattle.schedd_plan.specs.declared.reason.Reason.{Reason}
use Rattle.schedd_plan.specs.declared.reason.Reason.TheVariants.{ByCommand, ByPolicy}
use Rattle.schedd_plan.specs.declared.status.JobStatus.{JobStatus}
use Rattle.schedd_plan.specs.declared.status.JobStatus.TheVariants as status
use Rattle.schedd_plan.specs.declared.claims.KeptClaim.{KeptClaim}
use Rattle.schedd_plan.specs.declared.claims.Stage.{Stage}
use Rattle.schedd_plan.specs.declared.claims.Stage.TheVariants as stage
use Rattle.schedd_plan.specs.declared.mail.MailRow.TheVariants as row
use Rattle.schedd_plan.specs.declared.places.JobPlace.{JobPlace}
use Rattle.schedd_plan.specs.declared.places.JobPlace.TheVariants as place
use Rattle.schedd_plan.specs.declared.runs.KeptRun.{KeptRun}
use Rattle.schedd_plan.specs.declared.tick.TickLine.{TickLine}
use Rattle.schedd_plan.specs.declared.tick.TickLine.TheVariants as line
use Rattle.schedd_plan.specs.EndTable.{ended_ad_plan, is_asked_by}
use Rattle.schedd_plan.specs.JobPlaces.{job_place, let_go}
use Rattle.schedd_plan.specs.KeptClaims.{place_of_claim, engages}
use Rattle.schedd_plan.specs.KeptRuns.{place_of_run}
use Rattle.schedd_plan.specs.MailTable.{is_idle_place, granted_at, granted_row, is_spent_why, denied_claim, denied_row, order_row}
use Rattle.schedd_plan.specs.OrderTable.{remove_plan, hold_plan, resume_plan, resume_marked, can_be_held, is_waiting}
use Rattle.schedd_state.specs.declared.answer.ScheddStep.{ScheddStep}
use Rattle.schedd_core.specs.Checks.{policy_plan, after_check_by, after_check, with_look}
use Rattle.schedd_state.specs.DueChecks.{was_checked}
use Rattle.schedd_core.specs.Logging.{reopened, IsReopened}
use Rattle.schedd_state.specs.Reopening.{next_after, is_under_at, under_by, is_under_kind, still_left, found_runs, found_claims}
use Rattle.schedd_core.specs.Rows.{stage_known, run_at, known_job, seen_at, gone_at, ended_at, ended_with, mail_row, noted_in, asked_in, after_row, after_mail}
use Rattle.schedd_state.specs.Schedds.{ScheddValue, waits_for}
use Rattle.schedd_state.specs.DueLines.{tick_line}
use Rattle.schedd_core.specs.Ticks.{IsSought, after_past, lengthened_by, after_lengthen, granted_by, after_grant, after_give_up, after_line, IsTicked}
use Rattle.schedd_core.proofs.FitsAfter.{Frees}
use Rattle.schedd_core.proofs.Freed.{let_go_frees, end_frees}
use Rattle.schedd_core.proofs.Lines.{LineTold, line_told, IdleAd, idle_at, sought_idle}

-- no job that was looked at is forgotten, and the mark stays
abbrev pub GoesOn : ScheddValue → ScheddValue → Type 0
GoesOn v w = (w.passed ≡ v.passed) × ((key : Key) → was_checked v.checked key ≡ true → was_checked w.checked key ≡ true)

going_on : (v : ScheddValue) → GoesOn v v
going_on v = (refl, λ key h. h)

checked_more : (looks : List (Key × ℕ)) (k : Key) (at : ℕ) (key : Key) → was_checked looks key ≡ true → was_checked (insert_entry key_cmp looks k at) key ≡ true
checked_more looks k at key h = ap is_some (lookup-insert_entry key_cmp_total key k at looks) ∙ by (same_key k key)
  where
    by : (b : Bool) → is_some (cond b (Some at) (lookup (same_key key) looks)) ≡ true
    by true = refl
    by false = h

-- what a crash leaves of a schedd that is like another, where nothing was logged
pub record LeavesAs (q : KeyedAds) (v w : ScheddValue) : Type 0 where
  pub settings : w.settings ≡ v.settings
  pub left : w.left ≡ v.left
  pub looks : GoesOn v w
  pub next : next_after q w.waiting w.next_run ≡ v.next_run

pub same_reopened : (read : List ℕ → Option ClaimId) (jobs : List JobId) (q : KeyedAds) (reading : ℕ) (v w : ScheddValue) → v.waiting ≡ None → LeavesAs q v w → reopened read jobs q reading w ≡ reopened read jobs q reading v
unfolding reopened
same_reopened read jobs q reading v w none like =
    let next : next_after q w.waiting w.next_run ≡ next_after q v.waiting v.next_run = like.next ∙ sym (ap (λ o. next_after q o v.next_run) none) in
    λ i. record {
      settings = like.settings i;
      next_run = next i;
      left = still_left q (like.left i);
      claims = found_claims q (found_runs read q (still_left q (like.left i)) reading jobs);
      runs = found_runs read q (still_left q (like.left i)) reading jobs;
      checked = [];
      passed = None;
      waiting = None;
    }

pub reopens_as : (q : KeyedAds) (reading : ℕ) (v w new : ScheddValue) → v.waiting ≡ None → LeavesAs q v w → IsReopened w q reading new → IsReopened v q reading new
reopens_as q reading v w new none like r = record { jobs = r.jobs; under = r.under; schedd = λ read reads. r.schedd read reads ∙ same_reopened read r.jobs q reading v w none like }

-- ---- plans that use up no number
abbrev UsesNone : KeyedAds → Option JobPlan → Type 0
UsesNone q o = (n : ℕ) → next_after q o n ≡ n

freed_uses : (q : KeyedAds) (k : JobId) (p : JobPlan) → Frees k p → UsesNone q (Some p)
freed_uses q k (plan.PutIdle job) f n = refl
freed_uses q k (plan.PutHeld job reason) f n = refl
freed_uses q k (plan.Complete job completion) f n = refl
freed_uses q k (plan.Remove job) f n = refl
freed_uses q k (plan.MarkRemoved job) f n = absurd f
freed_uses q k (plan.MarkHeld job reason) f n = absurd f
freed_uses q k (plan.MarkRunning job) f n = absurd f
freed_uses q k (plan.Lengthen job until) f n = absurd f
freed_uses q k (plan.Grant job claim number until header) f n = absurd f

remove_uses : (q : KeyedAds) (job : JobId) (at : JobPlace) → UsesNone q (remove_plan at job)
remove_uses q job place.Nowhere n = refl
remove_uses q job place.Idle n = refl
remove_uses q job place.Held n = refl
remove_uses q job (place.Left st) n = refl
remove_uses q job (place.Under st) n = refl

hold_uses : (q : KeyedAds) (job : JobId) (reason : Reason) (at : JobPlace) → UsesNone q (hold_plan at job reason)
hold_uses q job reason place.Nowhere n = refl
hold_uses q job reason place.Idle n = refl
hold_uses q job reason place.Held n = refl
hold_uses q job reason (place.Left status.Idle) n = refl
hold_uses q job reason (place.Left status.Running) n = refl
hold_uses q job reason (place.Left status.Removed) n = refl
hold_uses q job reason (place.Left status.Completed) n = refl
hold_uses q job reason (place.Left status.Held) n = refl
hold_uses q job reason (place.Left status.Other) n = refl
hold_uses q job reason (place.Under status.Idle) n = refl
hold_uses q job reason (place.Under status.Running) n = refl
hold_uses q job reason (place.Under status.Removed) n = refl
hold_uses q job reason (place.Under status.Completed) n = refl
hold_uses q job reason (place.Under status.Held) n = refl
hold_uses q job reason (place.Under status.Other) n = refl

marked_uses : (q : KeyedAds) (job : JobId) (st : JobStatus) → UsesNone q (resume_marked st job)
marked_uses q job status.Idle n = refl
marked_uses q job status.Running n = refl
marked_uses q job status.Removed n = refl
marked_uses q job status.Completed n = refl
marked_uses q job status.Held n = refl
marked_uses q job status.Other n = refl

resume_uses : (q : KeyedAds) (job : JobId) (at : JobPlace) → UsesNone q (resume_plan at job)
resume_uses q job place.Nowhere n = refl
resume_uses q job place.Idle n = refl
resume_uses q job place.Held n = refl
resume_uses q job (place.Left st) n = marked_uses q job st n
resume_uses q job (place.Under st) n = marked_uses q job st n

module _ (q : KeyedAds) (v : ScheddValue) (idle : v.waiting ≡ None) where
  itself : (n : ℕ) → next_after q v.waiting n ≡ n
  itself n = ap (λ o. next_after q o n) idle

  -- what waits is nothing, or a plan that uses up no number
  nothing_waits : LeavesAs q v v
  nothing_waits = record { settings = refl; left = refl; looks = going_on v; next = itself v.next_run }

  order_as : (o : Option JobPlan) (reading : ℕ) → UsesNone q o → LeavesAs q v (after_row v q (order_row o) reading).schedd
  unfolding after_row
  order_as None reading uses = nothing_waits
  order_as (Some p) reading uses = record { settings = refl; left = refl; looks = going_on v; next = uses v.next_run }

  gone_as : (o : Option ℕ) (run : Rattle.claim_id.specs.declared.numbers.RunNo.RunNo) (kept : Bool) (reading : ℕ) → LeavesAs q v (after_row v q (gone_at (run_at v.runs o) q run kept) reading).schedd
  unfolding after_row
  gone_as None run kept reading = nothing_waits
  gone_as (Some i) run kept reading = by (slice_get v.runs i)
    where
      by : (o : Option KeptRun) → LeavesAs q v (after_row v q (gone_at (known_job i o) q run kept) reading).schedd
      by None = nothing_waits
      by (Some r) = record { settings = refl; left = refl; looks = going_on v; next = freed_uses q r.job (let_go q r.job) (let_go_frees q r.job) v.next_run }

  ended_as : (o : Option ℕ) (run : Rattle.claim_id.specs.declared.numbers.RunNo.RunNo) (h : Rattle.pool_mail.specs.declared.end.How.How) (reading : ℕ) → LeavesAs q v (after_row v q (ended_at (run_at v.runs o) q run h reading) reading).schedd
  unfolding after_row
  ended_as None run h reading = nothing_waits
  ended_as (Some i) run h reading = by (slice_get v.runs i)
    where
      with_ad : (r : KeptRun) (o : Option Attributes) → LeavesAs q v (after_row v q (ended_with o (i, r.job) run h reading) reading).schedd
      with_ad r None = nothing_waits
      with_ad r (Some ad) = record { settings = refl; left = refl; looks = going_on v; next = freed_uses q r.job (ended_ad_plan r.job ad h reading) (end_frees r.job ad h reading) v.next_run }

      by : (o : Option KeptRun) → LeavesAs q v (after_row v q (ended_at (known_job i o) q run h reading) reading).schedd
      by None = nothing_waits
      by (Some r) = with_ad r (ad_at (Proc r.job) q)

  -- of claims alone
  claims_as : (claims : List KeptClaim) → LeavesAs q v (record v { claims = claims })
  claims_as claims = record { settings = refl; left = refl; looks = going_on v; next = itself v.next_run }

  asked_as : (b : Bool) (found : Rattle.pool_mail.specs.declared.matching.Match.Match) (reading : ℕ) → LeavesAs q v (after_row v q (cond b (row.Ask found.claim found.job found.by_priority) row.Nothing) reading).schedd
  unfolding after_row
  asked_as false found reading = nothing_waits
  asked_as true found reading = by (ad_at (Proc found.job) q)
    where
      by : (o : Option Attributes) → LeavesAs q v (asked_in o v found.claim found.job found.by_priority reading).schedd
      by None = nothing_waits
      by (Some ad) = record { settings = refl; left = refl; looks = going_on v; next = itself v.next_run }

  granted_as : (o : Option (ℕ × Stage)) (claim : Rattle.claim_id.specs.declared.numbers.ClaimNo.ClaimNo) (reading : ℕ) → LeavesAs q v (after_row v q (granted_row o claim) reading).schedd
  unfolding after_row
  granted_as None claim reading = nothing_waits
  granted_as (Some known) claim reading = by known.1
    where
      by : (s : Stage) → LeavesAs q v (after_row v q (granted_at known.0 s) reading).schedd
      by (stage.Asked at) = record { settings = refl; left = refl; looks = going_on v; next = itself v.next_run }
      by stage.Ready = nothing_waits
      by stage.Leaving = nothing_waits

  denied_as : (o : Option (ℕ × Stage)) (of_run : Bool) (w : Why) (reading : ℕ) → LeavesAs q v (after_row v q (denied_row o of_run w) reading).schedd
  unfolding after_row
  denied_as None of_run w reading = nothing_waits
  denied_as (Some known) true w reading = by (is_spent_why w)
    where
      by : (b : Bool) → LeavesAs q v (after_row v q (cond b row.Nothing (row.Leave known.0)) reading).schedd
      by true = nothing_waits
      by false = record { settings = refl; left = refl; looks = going_on v; next = itself v.next_run }
  denied_as (Some known) false w reading = by known.1
    where
      by : (s : Stage) → LeavesAs q v (after_row v q (denied_claim known.0 s) reading).schedd
      by (stage.Asked at) = record { settings = refl; left = refl; looks = going_on v; next = itself v.next_run }
      by stage.Ready = nothing_waits
      by stage.Leaving = nothing_waits

  seen_as : (o : Option ℕ) (reading : ℕ) → LeavesAs q v (after_row v q (seen_at o) reading).schedd
  unfolding after_row
  seen_as None reading = nothing_waits
  seen_as (Some i) reading = by (slice_get v.runs i)
    where
      by : (o : Option KeptRun) → LeavesAs q v (noted_in o i reading v)
      by None = nothing_waits
      by (Some r) = record { settings = refl; left = refl; looks = going_on v; next = itself v.next_run }

  pub mail_as : (m : Mail) (reading : ℕ) → LeavesAs q v (after_mail v q m reading).schedd
  unfolding after_row mail_row
  mail_as (mail.Update slot) reading = nothing_waits
  mail_as (mail.Matched found) reading = asked_as ((is_idle_place (job_place q v.left found.job) && not (engages found.job v.claims)) && is_none (place_of_claim found.claim.no v.claims)) found reading
  mail_as (mail.Ask claim job ad by_priority) reading = nothing_waits
  mail_as (mail.Granted claim job) reading = granted_as (stage_known v claim.no) claim.no reading
  mail_as (mail.Denied claim run job why) reading = denied_as (stage_known v claim) (is_some run) why reading
  mail_as (mail.Activate run job ad until) reading = nothing_waits
  mail_as (mail.Alive run until) reading = nothing_waits
  mail_as (mail.Seen run until) reading = seen_as (place_of_run run v.runs) reading
  mail_as (mail.Stop run) reading = nothing_waits
  mail_as (mail.Release claim) reading = nothing_waits
  mail_as (mail.Gone run kept) reading = gone_as (place_of_run run v.runs) run kept reading
  mail_as (mail.Ended run how) reading = ended_as (place_of_run run v.runs) run how reading
  mail_as (mail.Remove job) reading = order_as (remove_plan (job_place q v.left job) job) reading (remove_uses q job (job_place q v.left job))
  mail_as (mail.Hold job) reading = order_as (hold_plan (job_place q v.left job) job ByCommand) reading (hold_uses q job ByCommand (job_place q v.left job))
  mail_as (mail.Resume job) reading = order_as (resume_plan (job_place q v.left job) job) reading (resume_uses q job (job_place q v.left job))

  -- ---- ticks
  past_as : (i : ℕ) (o : Option KeptRun) → LeavesAs q v (after_past v q i o).schedd
  past_as i None = nothing_waits
  past_as i (Some r) = record { settings = refl; left = refl; looks = going_on v; next = freed_uses q r.job (let_go q r.job) (let_go_frees q r.job) v.next_run }

  lengthen_as : (i reading : ℕ) (o : Option KeptRun) → LeavesAs q v (after_lengthen v q i o reading).schedd
  lengthen_as i reading None = nothing_waits
  lengthen_as i reading (Some r) = by (ad_at (Proc r.job) q)
    where
      by : (o : Option Attributes) → LeavesAs q v (lengthened_by o v i r reading).schedd
      by None = nothing_waits
      by (Some ad) = record { settings = refl; left = refl; looks = going_on v; next = refl }

  -- a job that is idle in the queue was not granted there
  grant_as : (i reading : ℕ) (job : JobId) (o : Option KeptClaim) → IdleAd q job → LeavesAs q v (after_grant v q i o job reading).schedd
  grant_as i reading job None at = nothing_waits
  grant_as i reading job (Some c) at = by (ad_at (Proc job) q)
    where
      free : is_under_at q job ≡ false
      free = ap under_by at.ad_is ∙ ap is_under_kind at.kind_is

      by : (o : Option Attributes) → LeavesAs q v (granted_by o v (is_some (ad_at Header q)) i c job reading).schedd
      by None = nothing_waits
      by (Some ad) = record { settings = refl; left = refl; looks = going_on v; next = ap (λ b. cond b (v.next_run + 1) v.next_run) free }

  give_up_as : (i : ℕ) (o : Option KeptClaim) → LeavesAs q v (after_give_up v i o).schedd
  give_up_as i None = nothing_waits
  give_up_as i (Some c) = record { settings = refl; left = refl; looks = going_on v; next = itself v.next_run }

  line_as : (l : TickLine) (found : Option Key) (reading : ℕ) → LineTold v q reading l → IsSought v q l found → LeavesAs q v (after_line v q l found reading).schedd
  unfolding after_line
  line_as line.Nothing found reading told sought = nothing_waits
  line_as (line.Left job) found reading told sought = record { settings = refl; left = refl; looks = going_on v; next = freed_uses q job (let_go q job) (let_go_frees q job) v.next_run }
  line_as (line.Past i) found reading told sought = past_as i (slice_get v.runs i)
  line_as (line.Lengthen i) found reading told sought = lengthen_as i reading (slice_get v.runs i)
  line_as (line.Regrant i job) found reading told sought = grant_as i reading job (slice_get v.claims i) (idle_at q job told)
  line_as (line.Seek i) None reading told sought = give_up_as i (slice_get v.claims i)
  line_as (line.Seek i) (Some Header) reading told sought = give_up_as i (slice_get v.claims i)
  line_as (line.Seek i) (Some (Proc job)) reading told sought = grant_as i reading job (slice_get v.claims i) (sought_idle v q i job sought)
  line_as (line.GiveUp i) found reading told sought = give_up_as i (slice_get v.claims i)

  pub tick_as : (reading : ℕ) (new : ScheddValue) (step : ScheddStep) → IsTicked v q reading new step → LeavesAs q v new
  tick_as reading new step t = subst (LeavesAs q v) (sym t.schedd) (line_as (tick_line v q reading) t.found reading (line_told v q reading) t.sought)

  -- ---- looks at periodic expressions
  pub check_as : (job : JobId) (reading : ℕ) → LeavesAs q v (after_check v q job reading).schedd
  unfolding after_check
  check_as job reading = by (ad_at (Proc job) q)
    where
      waits_as : (o : Option JobPlan) → UsesNone q o → LeavesAs q v (waits_for o (with_look job reading v)).schedd
      waits_as None uses = record { settings = refl; left = refl; looks = (refl, checked_more v.checked (Proc job) reading); next = itself v.next_run }
      waits_as (Some p) uses = record { settings = refl; left = refl; looks = (refl, checked_more v.checked (Proc job) reading); next = uses v.next_run }

      chosen : (hold remove release : Bool) → UsesNone q (cond hold (hold_plan (job_place q v.left job) job ByPolicy) (cond remove (remove_plan (job_place q v.left job) job) (cond release (resume_plan (job_place q v.left job) job) None)))
      chosen true remove release = hold_uses q job ByPolicy (job_place q v.left job)
      chosen false true release = remove_uses q job (job_place q v.left job)
      chosen false false true = resume_uses q job (job_place q v.left job)
      chosen false false false = λ n. refl

      by : (o : Option Attributes) → LeavesAs q v (after_check_by o v q job reading).schedd
      by None = nothing_waits
      by (Some ad) = waits_as (policy_plan (job_place q v.left job) job ad reading)
          (chosen (can_be_held (job_place q v.left job) && is_asked_by ad reading PERIODIC_HOLD.now) (is_asked_by ad reading PERIODIC_REMOVE.now) (is_waiting (job_place q v.left job) && is_asked_by ad reading PERIODIC_RELEASE.now))

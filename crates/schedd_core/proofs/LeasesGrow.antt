-- A lease in the queue never ends sooner than it did.
use Rattle.std.proofs.Common.{◌≡◌, ℕ, ◌≤◌, Bool, true, false, cond, not, ◌&&◌, slice_get, Option, Some, None, is_some, is_none, IfSome, IsSomeAnd, refl, ap, sym, ◌∙◌, subst, arith}
use Rattle.std.specs.Prelude.{Ok}
use Rattle.ad_value.specs.declared.names.job.TheConstants.{PERIODIC_HOLD, PERIODIC_REMOVE, PERIODIC_RELEASE}
use Rattle.ad_tree.specs.Ad.{Attributes}
use Rattle.claim_id.specs.declared.numbers.ClaimId.{ClaimId}
use Rattle.claim_id.specs.declared.numbers.JobId.{JobId}
use Rattle.claim_id.specs.declared.numbers.RunNo.{RunNo}
use Rattle.pool_mail.specs.declared.end.How.{How}
use Rattle.pool_mail.specs.declared.mail.Mail.{Mail}
use Rattle.pool_mail.specs.declared.mail.Mail.TheVariants as mail
use Rattle.pool_view.specs.Numbers.{same_job}
use Rattle.pool_view.proofs.Sameness.{same_job-true}
use Rattle.queue_tx.specs.declared.key.Key.{Key}
use Rattle.queue_tx.specs.declared.key.Key.TheVariants.{Header, Proc}
use Rattle.queue_tx.specs.declared.kind.JobKind.{JobKind}
use Rattle.queue_tx.specs.declared.kind.JobKind.TheVariants as kind
use Rattle.queue_tx.specs.Kinds.{kind_of}
use Rattle.queue_tx.specs.Queues.{KeyedAds, ad_at, queue_after}
use Rattle.schedd_plan.specs.declared.plan.JobPlan.{JobPlan}
use Rattle.schedd_plan.specs.declared.plan.JobPlan.TheVariants as plan
use Rattle.schedd_plan.specs.declared.reason.Reason.{Reason}
use Rattle.schedd_plan.specs.declared.reason.Reason.TheVariants.{ByCommand, ByPolicy}
use Rattle.schedd_plan.specs.declared.status.JobStatus.{JobStatus}
use Rattle.schedd_plan.specs.declared.status.JobStatus.TheVariants as status
use Rattle.schedd_plan.specs.Plans.{job_of, plan_ops}
use Rattle.schedd_plan.specs.JobAttributes.{lease_until}
use Rattle.schedd_plan.specs.declared.claims.KeptClaim.{KeptClaim}
use Rattle.schedd_plan.specs.declared.mail.MailRow.{MailRow}
use Rattle.schedd_plan.specs.declared.mail.MailRow.TheVariants as row
use Rattle.schedd_plan.specs.declared.places.JobPlace.{JobPlace}
use Rattle.schedd_plan.specs.declared.places.JobPlace.TheVariants as place
use Rattle.schedd_plan.specs.declared.runs.KeptRun.{KeptRun}
use Rattle.schedd_plan.specs.declared.tick.TickLine.{TickLine}
use Rattle.schedd_plan.specs.declared.tick.TickLine.TheVariants as line
use Rattle.schedd_plan.specs.EndTable.{ended_ad_plan, is_asked_by}
use Rattle.schedd_plan.specs.JobPlaces.{job_place, let_go}
use Rattle.schedd_plan.specs.KeptClaims.{place_of_claim, engages}
use Rattle.schedd_plan.specs.KeptRuns.{place_of_run}
use Rattle.schedd_plan.specs.MailTable.{is_idle_place, granted_row, denied_row, order_row}
use Rattle.schedd_plan.specs.OrderTable.{remove_plan, hold_plan, resume_plan, resume_marked, can_be_held, is_waiting}
use Rattle.schedd_plan.specs.TickTable.{lease_end}
use Rattle.schedd_state.specs.declared.answer.ScheddStep.{ScheddStep}
use Rattle.schedd_core.specs.Checks.{policy_plan, after_check_by, after_check, with_look}
use Rattle.schedd_core.specs.JobStates.{NamesRun}
use Rattle.schedd_state.specs.Reopening.{is_under_at, under_by, is_under_kind}
use Rattle.schedd_core.specs.Rows.{stage_known, run_at, known_job, seen_row, gone_at, gone_row, ended_at, ended_with, ended_row, mail_row, after_row, after_mail}
use Rattle.schedd_core.specs.ScheddParts.{IsOrdered, Fits, IsRunIn, LeasesGrow}
use Rattle.schedd_state.specs.Schedds.{ScheddValue, waits_for}
use Rattle.schedd_state.specs.DueLines.{tick_line}
use Rattle.schedd_core.specs.Ticks.{IsSought, later, after_past, lengthened_by, after_lengthen, granted_by, after_grant, after_give_up, after_line, IsTicked}
use Rattle.schedd_core.proofs.EventMay.{plan_of_row, row_plans, granted_quiet, denied_quiet, matched_quiet, seen_quiet}
use Rattle.schedd_core.proofs.FitsAfter.{Frees}
use Rattle.schedd_core.proofs.Freed.{let_go_frees, end_frees}
use Rattle.schedd_core.proofs.Lines.{LineTold, line_told, IdleAd, idle_at, sought_idle}
use Rattle.schedd_core.proofs.PlanAds.{with_status, marked_held, runless, lengthened, idle_kind, held_kind, run_kind, run_status, run_marked, lease_lengthened}
use Rattle.schedd_core.proofs.PlanJobs.{plan_ad, ad_of_plan, ad_elsewhere}
use Rattle.schedd_core.proofs.PlanMay.{one_run}

-- a plan that lengthens a lease, or grants a job that has none
abbrev IsNoShorter : KeyedAds → JobPlan → Type 0
IsNoShorter q (plan.PutIdle job) = Unit {0}
IsNoShorter q (plan.PutHeld job reason) = Unit {0}
IsNoShorter q (plan.Complete job completion) = Unit {0}
IsNoShorter q (plan.Remove job) = Unit {0}
IsNoShorter q (plan.MarkRemoved job) = Unit {0}
IsNoShorter q (plan.MarkHeld job reason) = Unit {0}
IsNoShorter q (plan.MarkRunning job) = Unit {0}
IsNoShorter q (plan.Lengthen job until) = (run : RunNo) (old : ℕ) → IsRunIn q job run old → old ≤ until
IsNoShorter q (plan.Grant job claim number until header) = is_under_at q job ≡ false

-- the ad of a run in the queue
record RunAd (q : KeyedAds) (job : JobId) (run : RunNo) (end : ℕ) : Type 0 where
  pub ad : Attributes
  pub ad_is : ad_at (Proc job) q ≡ Some ad
  pub claim : ClaimId
  pub claim_is : claim.no ≡ run.claim
  pub names : NamesRun ad claim run.number end

run_ad : (q : KeyedAds) (job : JobId) (run : RunNo) (end : ℕ) → IsRunIn q job run end → RunAd q job run end
run_ad q job run end h = by (ad_at (Proc job) q) refl h
  where
    by : (o : Option Attributes) → ad_at (Proc job) q ≡ o → IsSomeAnd o (λ ad. (claim : ClaimId) × (claim.no ≡ run.claim) × NamesRun ad claim run.number end) → RunAd q job run end
    by None is h = absurd h
    by (Some ad) is h = record { ad = ad; ad_is = is; claim = h.0; claim_is = h.1; names = h.2 }

some_is : (a b : Attributes) → Some a ≡ Some b → a ≡ b
some_is a b e = cc

-- one ad has one lease
same_lease : (job : JobId) (run : RunNo) (old end : ℕ) (q new : KeyedAds) (r : RunAd q job run old) (s : RunAd new job run end) → s.ad ≡ r.ad → old ≤ end
same_lease job run old end q new r s same =
    let one = one_run r.ad r.claim s.claim run.number run.number old end r.names (subst (λ a. NamesRun a s.claim run.number end) same s.names) in
    omega (arith, one.2)

no_run : (ad : Attributes) (claim : ClaimId) (number end : ℕ) (k : JobKind) → NamesRun ad claim number end → kind_of ad ≡ Some k → is_under_kind (Some k) ≡ false → ⊥
no_run ad claim number end k names is not_under = let clash : true ≡ false = ap is_under_kind (sym (run_kind ad claim number end names) ∙ is) ∙ not_under in cc

module _ (q new : KeyedAds) (o : IsOrdered q) where
  own_grows : (p : JobPlan) → IsNoShorter q p → queue_after q (plan_ops p) ≡ Ok new → (run : RunNo) (old end : ℕ) → RunAd q (job_of p) run old → RunAd new (job_of p) run end → old ≤ end
  unfolding plan_ad
  own_grows (plan.PutIdle job) longer h run old end r s =
      let same = some_is s.ad (runless (with_status 1 r.ad)) (sym s.ad_is ∙ ad_of_plan q new (plan.PutIdle job) r.ad o.keys h r.ad_is) in
      absurd (no_run s.ad s.claim run.number end kind.Idle s.names (ap kind_of same ∙ idle_kind r.ad (o.names (Proc job) r.ad r.ad_is)) refl)
  own_grows (plan.PutHeld job reason) longer h run old end r s =
      let same = some_is s.ad (runless (marked_held reason r.ad)) (sym s.ad_is ∙ ad_of_plan q new (plan.PutHeld job reason) r.ad o.keys h r.ad_is) in
      absurd (no_run s.ad s.claim run.number end kind.Held s.names (ap kind_of same ∙ held_kind reason r.ad (o.names (Proc job) r.ad r.ad_is)) refl)
  own_grows (plan.Complete job completion) longer h run old end r s =
      let clash : Some s.ad ≡ None = sym s.ad_is ∙ ad_of_plan q new (plan.Complete job completion) r.ad o.keys h r.ad_is in cc
  own_grows (plan.Remove job) longer h run old end r s =
      let clash : Some s.ad ≡ None = sym s.ad_is ∙ ad_of_plan q new (plan.Remove job) r.ad o.keys h r.ad_is in cc
  own_grows (plan.MarkRemoved job) longer h run old end r s =
      let same = some_is s.ad (with_status 3 r.ad) (sym s.ad_is ∙ ad_of_plan q new (plan.MarkRemoved job) r.ad o.keys h r.ad_is) in
      kept (with_status 3 r.ad) run old end (run_status 3 r.ad r.claim run.number old r.names) (subst (λ a. NamesRun a s.claim run.number end) same s.names)
    where
      kept : (ad : Attributes) (run : RunNo) (old end : ℕ) {c d : ClaimId} → NamesRun ad c run.number old → NamesRun ad d run.number end → old ≤ end
      kept ad run old end {c = c} {d = d} a b = let one = one_run ad c d run.number run.number old end a b in omega (arith, one.2)
  own_grows (plan.MarkHeld job reason) longer h run old end r s =
      let same = some_is s.ad (marked_held reason r.ad) (sym s.ad_is ∙ ad_of_plan q new (plan.MarkHeld job reason) r.ad o.keys h r.ad_is) in
      let one = one_run (marked_held reason r.ad) r.claim s.claim run.number run.number old end (run_marked reason r.ad r.claim run.number old r.names) (subst (λ a. NamesRun a s.claim run.number end) same s.names) in
      omega (arith, one.2)
  own_grows (plan.MarkRunning job) longer h run old end r s =
      let same = some_is s.ad (with_status 2 r.ad) (sym s.ad_is ∙ ad_of_plan q new (plan.MarkRunning job) r.ad o.keys h r.ad_is) in
      let one = one_run (with_status 2 r.ad) r.claim s.claim run.number run.number old end (run_status 2 r.ad r.claim run.number old r.names) (subst (λ a. NamesRun a s.claim run.number end) same s.names) in
      omega (arith, one.2)
  own_grows (plan.Lengthen job until) longer h run old end r s =
      let same = some_is s.ad (lengthened until r.ad) (sym s.ad_is ∙ ad_of_plan q new (plan.Lengthen job until) r.ad o.keys h r.ad_is) in
      let ends : end ≡ until = some_end end until (sym s.names.end_is ∙ (ap lease_until same ∙ lease_lengthened until r.ad)) in
      let grows : old ≤ until = longer run old (subst (λ a. IsSomeAnd a (λ ad. (claim : ClaimId) × (claim.no ≡ run.claim) × NamesRun ad claim run.number old)) (sym r.ad_is) (r.claim, r.claim_is, r.names)) in
      omega (arith, ends, grows)
    where
      some_end : (a b : ℕ) → Some a ≡ Some b → a ≡ b
      some_end a b e = cc
  own_grows (plan.Grant job claim number until header) longer h run old end r s =
      let clash : true ≡ false = sym (ap is_under_kind (run_kind r.ad r.claim run.number old r.names)) ∙ (ap under_by (sym r.ad_is) ∙ longer) in cc

  pub plan_grows : (p : JobPlan) → IsNoShorter q p → queue_after q (plan_ops p) ≡ Ok new → LeasesGrow q new
  plan_grows p longer h job run old end was now = by (same_job job (job_of p)) refl
    where
      by : (b : Bool) → same_job job (job_of p) ≡ b → old ≤ end
      by true is =
          let same = same_job-true job (job_of p) is in
          own_grows p longer h run old end (run_ad q (job_of p) run old (subst (λ j. IsRunIn q j run old) same was)) (run_ad new (job_of p) run end (subst (λ j. IsRunIn new j run end) same now))
      by false is =
          let r = run_ad q job run old was in
          let s = run_ad new job run end now in
          same_lease job run old end q new r s (some_is s.ad r.ad (sym s.ad_is ∙ (ad_elsewhere q new p job o.keys h is ∙ r.ad_is)))

-- ---- the plans of events
abbrev Longer : KeyedAds → Option JobPlan → Type 0
Longer q o = IfSome o (IsNoShorter q)

freed_longer : (q : KeyedAds) (k : JobId) (p : JobPlan) → Frees k p → IsNoShorter q p
freed_longer q k (plan.PutIdle job) f = tt
freed_longer q k (plan.PutHeld job reason) f = tt
freed_longer q k (plan.Complete job completion) f = tt
freed_longer q k (plan.Remove job) f = tt
freed_longer q k (plan.MarkRemoved job) f = tt
freed_longer q k (plan.MarkHeld job reason) f = tt
freed_longer q k (plan.MarkRunning job) f = tt
freed_longer q k (plan.Lengthen job until) f = absurd f
freed_longer q k (plan.Grant job claim number until header) f = absurd f

remove_longer : (q : KeyedAds) (job : JobId) (at : JobPlace) → Longer q (remove_plan at job)
remove_longer q job place.Nowhere = tt
remove_longer q job place.Idle = tt
remove_longer q job place.Held = tt
remove_longer q job (place.Left st) = tt
remove_longer q job (place.Under st) = tt

hold_longer : (q : KeyedAds) (job : JobId) (reason : Reason) (at : JobPlace) → Longer q (hold_plan at job reason)
hold_longer q job reason place.Nowhere = tt
hold_longer q job reason place.Idle = tt
hold_longer q job reason place.Held = tt
hold_longer q job reason (place.Left status.Idle) = tt
hold_longer q job reason (place.Left status.Running) = tt
hold_longer q job reason (place.Left status.Removed) = tt
hold_longer q job reason (place.Left status.Completed) = tt
hold_longer q job reason (place.Left status.Held) = tt
hold_longer q job reason (place.Left status.Other) = tt
hold_longer q job reason (place.Under status.Idle) = tt
hold_longer q job reason (place.Under status.Running) = tt
hold_longer q job reason (place.Under status.Removed) = tt
hold_longer q job reason (place.Under status.Completed) = tt
hold_longer q job reason (place.Under status.Held) = tt
hold_longer q job reason (place.Under status.Other) = tt

marked_longer : (q : KeyedAds) (job : JobId) (st : JobStatus) → Longer q (resume_marked st job)
marked_longer q job status.Idle = tt
marked_longer q job status.Running = tt
marked_longer q job status.Removed = tt
marked_longer q job status.Completed = tt
marked_longer q job status.Held = tt
marked_longer q job status.Other = tt

resume_longer : (q : KeyedAds) (job : JobId) (at : JobPlace) → Longer q (resume_plan at job)
resume_longer q job place.Nowhere = tt
resume_longer q job place.Idle = tt
resume_longer q job place.Held = tt
resume_longer q job (place.Left st) = marked_longer q job st
resume_longer q job (place.Under st) = marked_longer q job st

module _ (q : KeyedAds) (v : ScheddValue) (fit : Fits q v) where
  none_longer : (o : Option JobPlan) → o ≡ None → Longer q o
  none_longer o is = subst (Longer q) (sym is) tt

  row_longer : (r : MailRow) (reading : ℕ) → Longer q (plan_of_row r) → Longer q (after_row v q r reading).step.plan
  row_longer r reading h = subst (Longer q) (sym (row_plans v q r reading)) h

  order_longer : (o : Option JobPlan) → Longer q o → Longer q (plan_of_row (order_row o))
  order_longer None h = tt
  order_longer (Some p) h = h

  gone_longer : (o : Option ℕ) (run : RunNo) (kept : Bool) → Longer q (plan_of_row (gone_at (run_at v.runs o) q run kept))
  gone_longer None run kept = tt
  gone_longer (Some i) run kept = by (slice_get v.runs i)
    where
      by : (o : Option KeptRun) → Longer q (plan_of_row (gone_at (known_job i o) q run kept))
      by None = tt
      by (Some r) = freed_longer q r.job (let_go q r.job) (let_go_frees q r.job)

  ended_longer : (o : Option ℕ) (run : RunNo) (h : How) (reading : ℕ) → Longer q (plan_of_row (ended_at (run_at v.runs o) q run h reading))
  ended_longer None run h reading = tt
  ended_longer (Some i) run h reading = by (slice_get v.runs i)
    where
      with_ad : (r : KeptRun) (o : Option Attributes) → Longer q (plan_of_row (ended_with o (i, r.job) run h reading))
      with_ad r None = tt
      with_ad r (Some ad) = freed_longer q r.job (ended_ad_plan r.job ad h reading) (end_frees r.job ad h reading)

      by : (o : Option KeptRun) → Longer q (plan_of_row (ended_at (known_job i o) q run h reading))
      by None = tt
      by (Some r) = with_ad r (ad_at (Proc r.job) q)

  mail_longer : (m : Mail) (reading : ℕ) → Longer q (after_mail v q m reading).step.plan
  unfolding mail_row
  mail_longer (mail.Update slot) reading = row_longer row.Nothing reading tt
  mail_longer (mail.Matched found) reading = row_longer (mail_row v q (mail.Matched found) reading) reading
      (none_longer (plan_of_row (mail_row v q (mail.Matched found) reading)) (matched_quiet ((is_idle_place (job_place q v.left found.job) && not (engages found.job v.claims)) && is_none (place_of_claim found.claim.no v.claims)) found.claim found.job found.by_priority))
  mail_longer (mail.Ask claim job ad by_priority) reading = row_longer row.Nothing reading tt
  mail_longer (mail.Granted claim job) reading = row_longer (granted_row (stage_known v claim.no) claim.no) reading (none_longer (plan_of_row (granted_row (stage_known v claim.no) claim.no)) (granted_quiet (stage_known v claim.no) claim.no))
  mail_longer (mail.Denied claim run job why) reading = row_longer (denied_row (stage_known v claim) (is_some run) why) reading (none_longer (plan_of_row (denied_row (stage_known v claim) (is_some run) why)) (denied_quiet (stage_known v claim) (is_some run) why))
  mail_longer (mail.Activate run job ad until) reading = row_longer row.Nothing reading tt
  mail_longer (mail.Alive run until) reading = row_longer row.Nothing reading tt
  mail_longer (mail.Seen run until) reading = row_longer (seen_row v run) reading (none_longer (plan_of_row (seen_row v run)) (seen_quiet (place_of_run run v.runs)))
  mail_longer (mail.Stop run) reading = row_longer row.Nothing reading tt
  mail_longer (mail.Release claim) reading = row_longer row.Nothing reading tt
  mail_longer (mail.Gone run kept) reading = row_longer (gone_row v q run kept) reading (gone_longer (place_of_run run v.runs) run kept)
  mail_longer (mail.Ended run how) reading = row_longer (ended_row v q run how reading) reading (ended_longer (place_of_run run v.runs) run how reading)
  mail_longer (mail.Remove job) reading = row_longer (order_row (remove_plan (job_place q v.left job) job)) reading (order_longer (remove_plan (job_place q v.left job) job) (remove_longer q job (job_place q v.left job)))
  mail_longer (mail.Hold job) reading = row_longer (order_row (hold_plan (job_place q v.left job) job ByCommand)) reading (order_longer (hold_plan (job_place q v.left job) job ByCommand) (hold_longer q job ByCommand (job_place q v.left job)))
  mail_longer (mail.Resume job) reading = row_longer (order_row (resume_plan (job_place q v.left job) job)) reading (order_longer (resume_plan (job_place q v.left job) job) (resume_longer q job (job_place q v.left job)))

  -- ---- ticks
  past_longer : (i : ℕ) (o : Option KeptRun) → Longer q (after_past v q i o).step.plan
  past_longer i None = tt
  past_longer i (Some r) = freed_longer q r.job (let_go q r.job) (let_go_frees q r.job)

  later_most : (end : ℕ) (o : Option ℕ) (old : ℕ) → o ≡ Some old → old ≤ later end o
  later_most end None old is = cc
  later_most end (Some x) old is = let same : x ≡ old = cc in omega (arith, same)

  lengthen_longer : (i reading : ℕ) (o : Option KeptRun) → Longer q (after_lengthen v q i o reading).step.plan
  lengthen_longer i reading None = tt
  lengthen_longer i reading (Some r) = by (ad_at (Proc r.job) q) refl
    where
      by : (o : Option Attributes) → ad_at (Proc r.job) q ≡ o → Longer q (lengthened_by o v i r reading).step.plan
      by None is = tt
      by (Some ad) is = λ run old at.
          let a = run_ad q r.job run old at in
          let same = some_is a.ad ad (sym a.ad_is ∙ is) in
          later_most (lease_end ad v.settings reading) (lease_until ad) old (ap lease_until (sym same) ∙ a.names.end_is)

  grant_longer : (i reading : ℕ) (job : JobId) (o : Option KeptClaim) → IdleAd q job → Longer q (after_grant v q i o job reading).step.plan
  grant_longer i reading job None at = tt
  grant_longer i reading job (Some c) at = by (ad_at (Proc job) q)
    where
      by : (o : Option Attributes) → Longer q (granted_by o v (is_some (ad_at Header q)) i c job reading).step.plan
      by None = tt
      by (Some ad) = ap under_by at.ad_is ∙ ap is_under_kind at.kind_is

  give_up_longer : (i : ℕ) (o : Option KeptClaim) → Longer q (after_give_up v i o).step.plan
  give_up_longer i None = tt
  give_up_longer i (Some c) = tt

  line_longer : (l : TickLine) (found : Option Key) (reading : ℕ) → LineTold v q reading l → IsSought v q l found → Longer q (after_line v q l found reading).step.plan
  unfolding after_line
  line_longer line.Nothing found reading told sought = tt
  line_longer (line.Left job) found reading told sought = freed_longer q job (let_go q job) (let_go_frees q job)
  line_longer (line.Past i) found reading told sought = past_longer i (slice_get v.runs i)
  line_longer (line.Lengthen i) found reading told sought = lengthen_longer i reading (slice_get v.runs i)
  line_longer (line.Regrant i job) found reading told sought = grant_longer i reading job (slice_get v.claims i) (idle_at q job told)
  line_longer (line.Seek i) None reading told sought = give_up_longer i (slice_get v.claims i)
  line_longer (line.Seek i) (Some Header) reading told sought = give_up_longer i (slice_get v.claims i)
  line_longer (line.Seek i) (Some (Proc job)) reading told sought = grant_longer i reading job (slice_get v.claims i) (sought_idle v q i job sought)
  line_longer (line.GiveUp i) found reading told sought = give_up_longer i (slice_get v.claims i)

  -- ---- looks at periodic expressions
  check_longer : (job : JobId) (reading : ℕ) → Longer q (after_check v q job reading).step.plan
  unfolding after_check
  check_longer job reading = by (ad_at (Proc job) q)
    where
      waits_longer : (o : Option JobPlan) → Longer q o → Longer q (waits_for o (with_look job reading v)).step.plan
      waits_longer None h = tt
      waits_longer (Some p) h = h

      chosen : (hold remove release : Bool) → Longer q (cond hold (hold_plan (job_place q v.left job) job ByPolicy) (cond remove (remove_plan (job_place q v.left job) job) (cond release (resume_plan (job_place q v.left job) job) None)))
      chosen true remove release = hold_longer q job ByPolicy (job_place q v.left job)
      chosen false true release = remove_longer q job (job_place q v.left job)
      chosen false false true = resume_longer q job (job_place q v.left job)
      chosen false false false = tt

      by : (o : Option Attributes) → Longer q (after_check_by o v q job reading).step.plan
      by None = tt
      by (Some ad) = waits_longer (policy_plan (job_place q v.left job) job ad reading)
          (chosen (can_be_held (job_place q v.left job) && is_asked_by ad reading PERIODIC_HOLD.now) (is_asked_by ad reading PERIODIC_REMOVE.now) (is_waiting (job_place q v.left job) && is_asked_by ad reading PERIODIC_RELEASE.now))

  -- ---- so leases grow
  abbrev Grows : KeyedAds → Option JobPlan → Type 0
  Grows new o = IfSome o (λ p. queue_after q (plan_ops p) ≡ Ok new → LeasesGrow q new)

  grows_on : (new : KeyedAds) (o : Option JobPlan) → Longer q o → Grows new o
  grows_on new None h = tt
  grows_on new (Some p) h = plan_grows q new fit.queue p h

  pub mail_grows : (new : KeyedAds) (m : Mail) (reading : ℕ) → Grows new (after_mail v q m reading).step.plan
  mail_grows new m reading = grows_on new (after_mail v q m reading).step.plan (mail_longer m reading)

  pub tick_grows : (new : KeyedAds) (reading : ℕ) (after : ScheddValue) (step : ScheddStep) → IsTicked v q reading after step → Grows new step.plan
  tick_grows new reading after step t =
      grows_on new step.plan (subst (λ s. Longer q s.plan) (sym t.done) (line_longer (tick_line v q reading) t.found reading (line_told v q reading) t.sought))

  pub check_grows : (new : KeyedAds) (job : JobId) (reading : ℕ) → Grows new (after_check v q job reading).step.plan
  check_grows new job reading = grows_on new (after_check v q job reading).step.plan (check_longer job reading)

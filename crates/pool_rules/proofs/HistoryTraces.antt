-- What an event leaves in a pool as it was, and what it adds: the greatest reading, the jobs that were
-- ordered to be removed, and those that were acknowledged.
use Rattle.std.proofs.Common.{◌≡◌, ◌⊎◌, inl, inr, ℕ, Bool, true, false, ◌&&◌, List, [], ◌++◌, position, Option, Some, None, IsSomeAnd, is_some, slice_get, refl, sym, ◌∙◌, ap, subst, if◌then◌else◌}
use Rattle.std.proofs.lemmas.Option.{none-some, same_Some}
use Rattle.ad_value.specs.declared.names.job.TheConstants.{PERIODIC_HOLD, PERIODIC_REMOVE, PERIODIC_RELEASE}
use Rattle.ad_tree.specs.Ad.{Attributes}
use Rattle.claim_id.specs.declared.numbers.ClaimId.{ClaimId}
use Rattle.claim_id.specs.declared.numbers.JobId.{JobId}
use Rattle.claim_id.specs.declared.order.Verb.{Verb}
use Rattle.pool_parts.specs.declared.answer.Stepped.{Stepped}
use Rattle.pool_parts.specs.declared.event.Event.{Event}
use Rattle.pool_parts.specs.declared.event.Event.TheVariants as event
use Rattle.pool_rules.proofs.Kept.{in_both, in_first}
use Rattle.pool_mail.specs.declared.mail.Mail.{Mail}
use Rattle.pool_mail.specs.declared.mail.Mail.TheVariants as mail
use Rattle.pool_rules.specs.Deeds.{ordered_by}
use Rattle.pool_rules.specs.Happens.{Happens, ComesBack, Receives, Ticks, is_known}
use Rattle.pool_rules.specs.Logging.{IsBackWith, IsLogged, Leaver, ScheddIsBack, after_unfinished, leaver_of}
use Rattle.pool_rules.specs.Masters.{gives}
use Rattle.pool_rules.specs.Schedds.{jobs_in}
use Rattle.pool_rules.specs.Startds.{IsReceivedStep, IsStartdStep}
use Rattle.pool_outer.specs.declared.gate.Daemon.{Daemon}
use Rattle.pool_outer.specs.declared.gate.Daemon.TheVariants.{Schedd, Startd, Matchmaker}
use Rattle.pool_parts.specs.Plans.{ordered_job}
use Rattle.pool_parts.specs.declared.pending.Pending.{Pending}
use Rattle.pool_parts.specs.declared.pending.Unfinished.{Unfinished}
use Rattle.pool_parts.specs.declared.pending.Unfinished.TheVariants.{Submission, Plan}
use Rattle.pool_state.specs.declared.state.PoolState.{PoolState}
use Rattle.pool_tables.specs.OrderTables.{is_due_for}
use Rattle.pool_tables.specs.declared.sent.Sent.{Sent}
use Rattle.pool_view.specs.AbstractPool.{IsIn}
use Rattle.queue_tx.specs.Queues.{KeyedAds, ad_at}
use Rattle.queue_tx.specs.declared.key.Key.TheVariants.{Proc}
use Rattle.schedd_core.specs.Checks.{after_check, after_check_by, policy_plan}
use Rattle.schedd_state.specs.Reopening.{IsReader}
use Rattle.schedd_state.specs.Schedds.{ScheddValue, waits_for}
use Rattle.schedd_plan.specs.declared.plan.JobPlan.{JobPlan}
use Rattle.schedd_plan.specs.declared.reason.Reason.TheVariants.{ByPolicy}
use Rattle.schedd_plan.specs.declared.status.JobStatus.{JobStatus}
use Rattle.schedd_plan.specs.declared.status.JobStatus.TheVariants as status
use Rattle.schedd_plan.specs.EndTable.{is_asked_by}
use Rattle.schedd_plan.specs.JobPlaces.{job_place}
use Rattle.schedd_plan.specs.OrderTable.{can_be_held, hold_left, hold_plan, hold_under, is_waiting, remove_plan, resume_marked, resume_plan}
use Rattle.schedd_plan.specs.declared.places.JobPlace.{JobPlace}
use Rattle.schedd_plan.specs.declared.places.JobPlace.TheVariants as place
use Rattle.startd_core.specs.Startds.{StartdValue, after_end, after_mail, after_reboot, after_tick}
use Rattle.pool_rules.specs.Orders.{OrdersRemoval}

-- the greatest reading is the same, and no order and no acknowledgement is forgotten; what is
-- ordered more is ordered by the event
pub record Traces (e : Event) (s new : PoolState) : Type 0 where
  pub latest : new.latest ≡ s.latest
  pub ordered : (job : JobId) → IsIn job s.ordered → IsIn job new.ordered
  pub asked : (job : JobId) → IsIn job new.ordered → IsIn job s.ordered ⊎ OrdersRemoval e s job
  pub acked : (job : JobId) → IsIn job s.acked → IsIn job new.acked

-- nothing of this changes
quiet : (e : Event) (s new t : PoolState) → new ≡ t → t.latest ≡ s.latest → t.ordered ≡ s.ordered → t.acked ≡ s.acked → Traces e s new
quiet e s new t is latest ordered acked = record {
  latest = ap (λ (x : PoolState). x.latest) is ∙ latest;
  ordered = λ job there. subst (IsIn job) (sym (ap (λ (x : PoolState). x.ordered) is ∙ ordered)) there;
  asked = λ job there. inl (subst (IsIn job) (ap (λ (x : PoolState). x.ordered) is ∙ ordered) there);
  acked = λ job there. subst (IsIn job) (sym (ap (λ (x : PoolState). x.acked) is ∙ acked)) there;
}

-- jobs are ordered
orders : (e : Event) (s new t : PoolState) (jobs : List JobId) → new ≡ t → t.latest ≡ s.latest → t.ordered ≡ s.ordered ++ jobs → t.acked ≡ s.acked → ((job : JobId) → IsIn job jobs → OrdersRemoval e s job) → Traces e s new
orders e s new t jobs is latest ordered acked asked = record {
  latest = ap (λ (x : PoolState). x.latest) is ∙ latest;
  ordered = λ job there. subst (IsIn job) (sym (ap (λ (x : PoolState). x.ordered) is ∙ ordered)) (in_first job s.ordered jobs there);
  asked = λ job there. by job (in_both job s.ordered jobs (subst (IsIn job) (ap (λ (x : PoolState). x.ordered) is ∙ ordered) there));
  acked = λ job there. subst (IsIn job) (sym (ap (λ (x : PoolState). x.acked) is ∙ acked)) there;
}
  where
    by : (job : JobId) → IsIn job s.ordered ⊎ IsIn job jobs → IsIn job s.ordered ⊎ OrdersRemoval e s job
    by job (inl old) = inl old
    by job (inr new) = inr (asked job new)

-- ---- orders by mail
remove_only : (m : Mail) (known : Bool) (job : JobId) → IsIn job (ordered_by m known) → m ≡ mail.Remove job
remove_only (mail.Remove other) true job (inl same) = ap mail.Remove (sym same)
remove_only (mail.Remove other) true job (inr there) = absurd there
remove_only (mail.Remove other) false job there = absurd there
remove_only (mail.Update slot) known job there = absurd there
remove_only (mail.Matched found) known job there = absurd there
remove_only (mail.Ask claim of ad by_priority) known job there = absurd there
remove_only (mail.Granted claim of) known job there = absurd there
remove_only (mail.Denied claim run of why) known job there = absurd there
remove_only (mail.Activate run of ad until) known job there = absurd there
remove_only (mail.Alive run until) known job there = absurd there
remove_only (mail.Seen run until) known job there = absurd there
remove_only (mail.Stop run) known job there = absurd there
remove_only (mail.Release claim) known job there = absurd there
remove_only (mail.Gone run kept) known job there = absurd there
remove_only (mail.Ended run how) known job there = absurd there
remove_only (mail.Hold other) known job there = absurd there
remove_only (mail.Resume other) known job there = absurd there

-- ---- orders by a periodic expression
in_jobs : (o : Option JobId) (job : JobId) → IsIn job (jobs_in o) → o ≡ Some job
in_jobs None job there = absurd there
in_jobs (Some other) job (inl same) = ap (λ j. Some j) (sym same)
in_jobs (Some other) job (inr there) = absurd there

held_left : (st : JobStatus) (job : JobId) → ordered_job (hold_left st job ByPolicy) ≡ None
held_left status.Idle job = refl
held_left status.Running job = refl
held_left status.Removed job = refl
held_left status.Completed job = refl
held_left status.Held job = refl
held_left status.Other job = refl

held_under : (st : JobStatus) (job : JobId) → ordered_job (hold_under st job ByPolicy) ≡ None
held_under status.Idle job = refl
held_under status.Running job = refl
held_under status.Removed job = refl
held_under status.Completed job = refl
held_under status.Held job = refl
held_under status.Other job = refl

resumed_marked : (st : JobStatus) (job : JobId) → ordered_job (resume_marked st job) ≡ None
resumed_marked status.Idle job = refl
resumed_marked status.Running job = refl
resumed_marked status.Removed job = refl
resumed_marked status.Completed job = refl
resumed_marked status.Held job = refl
resumed_marked status.Other job = refl

hold_removes_none : (p : JobPlace) (job : JobId) → ordered_job (hold_plan p job ByPolicy) ≡ None
hold_removes_none place.Nowhere job = refl
hold_removes_none place.Idle job = refl
hold_removes_none place.Held job = refl
hold_removes_none (place.Left st) job = held_left st job
hold_removes_none (place.Under st) job = held_under st job

resume_removes_none : (p : JobPlace) (job : JobId) → ordered_job (resume_plan p job) ≡ None
resume_removes_none place.Nowhere job = refl
resume_removes_none place.Idle job = refl
resume_removes_none place.Held job = refl
resume_removes_none (place.Left st) job = resumed_marked st job
resume_removes_none (place.Under st) job = resumed_marked st job

remove_removes : (p : JobPlace) (job other : JobId) → ordered_job (remove_plan p job) ≡ Some other → job ≡ other
remove_removes place.Nowhere job other is = absurd (none-some other is)
remove_removes place.Idle job other is = same_Some job other is
remove_removes place.Held job other is = same_Some job other is
remove_removes (place.Left st) job other is = same_Some job other is
remove_removes (place.Under st) job other is = same_Some job other is

policy_removes : (p : JobPlace) (job other : JobId) (ad : Attributes) (reading : ℕ) → ordered_job (policy_plan p job ad reading) ≡ Some other → (job ≡ other) × (is_asked_by ad reading PERIODIC_REMOVE.now ≡ true)
policy_removes p job other ad reading is = by (can_be_held p && is_asked_by ad reading PERIODIC_HOLD.now) (is_asked_by ad reading PERIODIC_REMOVE.now) (is_waiting p && is_asked_by ad reading PERIODIC_RELEASE.now) refl is
  where
    by : (a b c : Bool) → is_asked_by ad reading PERIODIC_REMOVE.now ≡ b
        → ordered_job (if a then hold_plan p job ByPolicy else (if b then remove_plan p job else (if c then resume_plan p job else None))) ≡ Some other
        → (job ≡ other) × (is_asked_by ad reading PERIODIC_REMOVE.now ≡ true)
    by true b c asked h = absurd (none-some other (sym (hold_removes_none p job) ∙ h))
    by false true c asked h = (remove_removes p job other h, asked)
    by false false true asked h = absurd (none-some other (sym (resume_removes_none p job) ∙ h))
    by false false false asked h = absurd (none-some other h)

waits_plan : (o : Option JobPlan) (v : ScheddValue) → (waits_for o v).step.plan ≡ o
waits_plan None v = refl
waits_plan (Some p) v = refl

pub look_removes : (v : ScheddValue) (q : KeyedAds) (job other : JobId) (reading : ℕ) → ordered_job (after_check v q job reading).step.plan ≡ Some other
    → (job ≡ other) × IsSomeAnd (ad_at (Proc other) q) (λ ad. is_asked_by ad reading PERIODIC_REMOVE.now ≡ true)
unfolding after_check
look_removes v q job other reading is = by (ad_at (Proc job) q) refl is
  where
    by : (o : Option Attributes) → ad_at (Proc job) q ≡ o → ordered_job (after_check_by o v q job reading).step.plan ≡ Some other
        → (job ≡ other) × IsSomeAnd (ad_at (Proc other) q) (λ ad. is_asked_by ad reading PERIODIC_REMOVE.now ≡ true)
    by None at h = absurd (none-some other h)
    by (Some ad) at h =
        let plan = policy_removes (job_place q v.left job) job other ad reading (sym (ap ordered_job (waits_plan (policy_plan (job_place q v.left job) job ad reading) _)) ∙ h) in
        (plan.0, subst (λ o. IsSomeAnd o (λ x. is_asked_by x reading PERIODIC_REMOVE.now ≡ true)) (sym (ap (λ j. ad_at (Proc j) q) (sym plan.0) ∙ at)) plan.1)

-- ---- each event
gave : (e : Event) (s new : PoolState) (place : Option ℕ) (v : Verb) (job : JobId) → new ≡ gives place v job s → Traces e s new
gave e s new None v job is = quiet e s new s is refl refl refl
gave e s new (Some place) v job is = quiet e s new (gives (Some place) v job s) is refl refl refl

of_startd : (e : Event) (s new : PoolState) (machine : ℕ) (P : StartdValue → Type 0) → ((v : StartdValue) → P v → Traces e s new) → IsSomeAnd (slice_get s.machines machine) P → Traces e s new
of_startd e s new machine P each h = by (slice_get s.machines machine) h
  where
    by : (o : Option StartdValue) → IsSomeAnd o P → Traces e s new
    by None none = absurd none
    by (Some v) some = each v some

received_mail : (s new : PoolState) (r : Stepped) (who : Daemon) (boot index reading : ℕ) (judged : Option Rattle.ad_eval.specs.Judgement.Judgement) (mismatch : Option Rattle.ad_eval.specs.Judgement.Mismatch) (sent : Sent)
    → slice_get s.mails.sent index ≡ Some sent → Receives who index sent.mail reading judged s new r → Traces (event.Receive who boot index reading judged mismatch) s new
received_mail s new r Schedd boot index reading judged mismatch sent at h = orders _ s new _ (ordered_by sent.mail (is_known sent.mail s)) h.pool refl refl refl
    (λ job there. subst (λ o. IsSomeAnd o (λ (x : Sent). x.mail ≡ mail.Remove job)) (sym at) (remove_only sent.mail (is_known sent.mail s) job there))
received_mail s new r (Startd machine) boot index reading judged mismatch sent at h =
    of_startd _ s new machine (λ v. IsReceivedStep machine index (after_mail v sent.mail judged reading) s new r) (λ v step. quiet _ s new _ step.pool refl refl refl) h
received_mail s new r Matchmaker boot index reading judged mismatch sent at h = quiet _ s new _ h.0 refl refl refl

acked_more : (e : Event) (s new : PoolState) (q : KeyedAds) (leaver : Leaver) (what : Unfinished) → new ≡ after_unfinished q leaver what s → Traces e s new
acked_more e s new q leaver (Plan p) is = quiet e s new (after_unfinished q leaver (Plan p) s) is refl refl refl
acked_more e s new q leaver (Submission cluster count) is = record {
  latest = ap (λ (x : PoolState). x.latest) is;
  ordered = λ job there. subst (IsIn job) (sym (ap (λ (x : PoolState). x.ordered) is)) there;
  asked = λ job there. inl (subst (IsIn job) (ap (λ (x : PoolState). x.ordered) is) there);
  acked = λ job there. subst (IsIn job) (sym (ap (λ (x : PoolState). x.acked) is)) (in_first job s.acked _ there);
}

of_pending : (e : Event) (s new : PoolState) (P : Pending → Type 0) → ((p : Pending) → P p → Traces e s new) → IsSomeAnd s.pending P → Traces e s new
of_pending e s new P each h = by s.pending h
  where
    by : (o : Option Pending) → IsSomeAnd o P → Traces e s new
    by None none = absurd none
    by (Some p) some = each p some

module _ (read : List ℕ → Option ClaimId) (reads : IsReader read) where
  came_back : (e : Event) (s back new : PoolState) (r : Stepped) (who : Daemon) (kept : Bool) (reading : ℕ) → ComesBack who kept reading s back r → new.latest ≡ back.latest → new.ordered ≡ back.ordered → new.acked ≡ back.acked → Traces e s new
  came_back e s back new r who kept reading h latest ordered acked = on (of who kept h)
    where
      of_schedd : (kept : Bool) → ScheddIsBack s kept reading back → Traces e s back
      of_schedd false is = quiet e s back _ is.pool refl refl refl
      of_schedd true is = of_pending e s back (λ p. IsBackWith s p reading back) (λ p w. quiet e s back _ (w.pool read reads) refl refl refl) is

      of : (who : Daemon) (kept : Bool) → ComesBack who kept reading s back r → Traces e s back
      of Schedd kept is = of_schedd kept is.0
      of (Startd machine) kept is = of_startd e s back machine (λ v. IsStartdStep machine (after_reboot v reading) [] s back r) (λ v step. quiet e s back _ step.pool refl refl refl) is
      of Matchmaker kept is = quiet e s back _ is.0 refl refl refl

      on : Traces e s back → Traces e s new
      on t = record {
        latest = latest ∙ t.latest;
        ordered = λ job there. subst (IsIn job) (sym ordered) (t.ordered job there);
        asked = λ job there. t.asked job (subst (IsIn job) ordered there);
        acked = λ job there. subst (IsIn job) (sym acked) (t.acked job there);
      }

  ticked : (e : Event) (s new : PoolState) (r : Stepped) (who : Daemon) (reading : ℕ) → Ticks who reading s new r → Traces e s new
  ticked e s new r Schedd reading h = orders e s new _ [] h.pool refl refl refl (λ job there. absurd there)
  ticked e s new r (Startd machine) reading h = of_startd e s new machine (λ v. IsStartdStep machine (after_tick v reading) [] s new r) (λ v step. quiet e s new _ step.pool refl refl refl) h
  ticked e s new r Matchmaker reading h = quiet e s new _ h.0 refl refl refl

  pub happens_traces : (e : Event) (s new : PoolState) (r : Stepped) → Happens e s new r → Traces e s new
  unfolding Happens
  happens_traces (event.Submit boot jobs reading) s new r h = quiet _ s new _ h.pool refl refl refl
  happens_traces (event.Order v job reading) s new r h = gave _ s new (position (is_due_for v job reading) s.orders) v job h.0
  happens_traces (event.Receive who boot index reading judged mismatch) s new r h = by (slice_get s.mails.sent index) refl h
    where
      by : (o : Option Sent) → slice_get s.mails.sent index ≡ o → IsSomeAnd o (λ sent. Receives who index sent.mail reading judged s new r) → Traces (event.Receive who boot index reading judged mismatch) s new
      by None at none = absurd none
      by (Some sent) at some = received_mail s new r who boot index reading judged mismatch sent at some
  happens_traces (event.Tick who boot reading) s new r h = ticked _ s new r who reading h
  happens_traces (event.Check boot job reading) s new r h = orders _ s new _ (jobs_in (ordered_job (after_check s.schedd s.queue job reading).step.plan)) h.pool refl refl refl
      (λ other there. look_removes s.schedd s.queue job other reading (in_jobs (ordered_job (after_check s.schedd s.queue job reading).step.plan) other there))
  happens_traces (event.Logged boot receipt) s new r h = of_pending _ s new (λ p. IsLogged s p new r) (λ p is. acked_more _ s new is.queue (leaver_of read s.queue p.what) p.what (is.pool read reads)) h
  happens_traces (event.Ended machine boot receipt reading) s new r h =
      of_startd _ s new machine (λ v. IsStartdStep machine (after_end v receipt.item reading) (Rattle.pool_rules.specs.Startds.ends_after receipt.item.run v (after_end v receipt.item reading)) s new r) (λ v step. quiet _ s new _ step.pool refl refl refl) h
  happens_traces (event.Crash who) s new r h = quiet _ s new _ h.0 refl refl refl
  happens_traces (event.Reopen who kept ended reading) s new r h =
      came_back _ s h.back new r who (is_some kept) reading h.comes (ap (λ (x : PoolState). x.latest) h.pool) (ap (λ (x : PoolState). x.ordered) h.pool) (ap (λ (x : PoolState). x.acked) h.pool)
  happens_traces (event.Matches list judged reading) s new r h = quiet _ s new _ h.pool refl refl refl
  happens_traces (event.Close length reading mismatch) s new r h = quiet _ s new _ h.0 refl refl refl

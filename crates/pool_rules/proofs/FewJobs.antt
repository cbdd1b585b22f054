-- A pool has no more jobs than it may, with those that are to be logged too.
use Rattle.std.proofs.Common.{◌≡◌, ℕ, ◌+◌, ◌-◌, ◌≤◌, Bool, true, false, List, [], ◌∷◌, length, Option, Some, None, is_some, IsSomeAnd, slice_get, position, if◌then◌else◌, ltb-false, refl, sym, subst, arith}
use Rattle.ad_eval.specs.Judgement.{Judgement}
use Rattle.claim_id.specs.declared.numbers.ClaimId.{ClaimId}
use Rattle.claim_id.specs.declared.numbers.JobId.{JobId}
use Rattle.claim_id.specs.declared.order.Verb.{Verb}
use Rattle.pool_parts.specs.declared.answer.Stepped.{Stepped}
use Rattle.pool_parts.specs.declared.event.Event.{Event}
use Rattle.pool_parts.specs.declared.event.Event.TheVariants as event
use Rattle.pool_outer.specs.declared.gate.Daemon.{Daemon}
use Rattle.pool_outer.specs.declared.gate.Daemon.TheVariants.{Schedd, Startd, Matchmaker}
use Rattle.pool_parts.specs.Plans.{leaving_job}
use Rattle.pool_parts.specs.declared.pending.Pending.{Pending}
use Rattle.pool_parts.specs.declared.pending.Unfinished.{Unfinished}
use Rattle.pool_parts.specs.declared.pending.Unfinished.TheVariants.{Submission, Plan}
use Rattle.pool_rules.specs.Refusals.{IsRefusal, is_over, jobs_refusal, schedd_refusal, submit_refusal}
use Rattle.pool_state.specs.Openings.{CanOpen, IsOpenedBy}
use Rattle.pool_state.specs.declared.opening.Opening.{Opening}
use Rattle.pool_state.specs.declared.state.PoolState.{PoolState}
use Rattle.pool_state.specs.declared.opening.TheConstants.{MAX_JOBS}
use Rattle.pool_tables.specs.OrderTables.{is_due_for}
use Rattle.pool_tables.specs.declared.refusal.StepError.TheVariants as error
use Rattle.pool_tables.specs.declared.sent.Sent.{Sent}
use Rattle.pool_view.specs.declared.run.EndReport.{EndReport}
use Rattle.queue_tx.specs.Queues.{KeyedAds}
use Rattle.schedd_state.specs.Reopening.{IsReader}
use Rattle.schedd_plan.specs.declared.plan.JobPlan.{JobPlan}
use Rattle.startd_core.specs.Startds.{After, StartdValue, after_end, after_mail, after_reboot, after_tick}
use Rattle.pool_rules.specs.Answers.{pending_by}
use Rattle.pool_rules.specs.Happens.{ComesBack, Happens, Reacts, Receives, Ticks, counts_brought, crashes}
use Rattle.pool_rules.specs.Logging.{IsBackWith, IsLogged, Leaver, ScheddIsBack, after_unfinished, jobs_after, jobs_left_by, leaver_of}
use Rattle.pool_rules.specs.Masters.{gives}
use Rattle.pool_rules.specs.Startds.{IsReceivedStep, IsStartdStep, ends_after}
use Rattle.pool_rules.specs.Counted.{HasFewJobs, jobs_then}
use Rattle.pool_rules.specs.Histories.{IsHistory, LeadsTo, Step}
use Rattle.pool_rules.proofs.JobLists.{one_count}
use Rattle.pool_rules.proofs.PoolEvents.{event_free}
use Rattle.pool_rules.proofs.Refusing.{first_none}

-- ---- what is to be logged
left_few : (pl : JobPlan) (n : ℕ) → jobs_left_by pl n ≤ n
left_few pl n = by (is_some (leaving_job pl))
  where
    by : (b : Bool) → (if b then n - 1 else n) ≤ n
    by true = omega arith
    by false = omega arith

planned_few : (number : ℕ) (o : Option JobPlan) (n : ℕ) → n ≤ MAX_JOBS → jobs_then (pending_by number o) n ≤ MAX_JOBS
planned_few number None n few = few
planned_few number (Some pl) n few = let less = left_few pl n in omega (arith, less, few)

-- ---- pools
few_by : (t u : PoolState) → t ≡ u → HasFewJobs u → HasFewJobs t
few_by t u is few = subst (λ (x : PoolState). HasFewJobs x) (sym is) few

-- what is to be logged, and the count, stay
record Same (s t : PoolState) : Type 0 where
  jobs : t.counts.jobs ≡ s.counts.jobs
  pending : t.pending ≡ s.pending

same_few : (s t : PoolState) → HasFewJobs s → Same s t → HasFewJobs t
same_few s t few same = (
  subst (λ n. n ≤ MAX_JOBS) (sym same.jobs) few.0,
  subst (λ n. jobs_then t.pending n ≤ MAX_JOBS) (sym same.jobs) (subst (λ (o : Option Pending). jobs_then o s.counts.jobs ≤ MAX_JOBS) (sym same.pending) few.1),
)

same_by : (s t u : PoolState) → t ≡ u → Same s u → Same s t
same_by s t u is same = subst (λ (x : PoolState). Same s x) (sym is) same

given_same : (s : PoolState) (o : Option ℕ) (v : Verb) (job : JobId) → Same s (gives o v job s)
given_same s None v job = record { jobs = refl; pending = refl }
given_same s (Some place) v job = record { jobs = refl; pending = refl }

startd_same : (s t : PoolState) (r : Stepped) (machine : ℕ) (o : Option StartdValue) (does : StartdValue → After) (ends : StartdValue → List EndReport) → IsSomeAnd o (λ v. IsStartdStep machine (does v) (ends v) s t r) → Same s t
startd_same s t r machine None does ends h = absurd h
startd_same s t r machine (Some v) does ends h = same_by s t _ h.pool (record { jobs = refl; pending = refl })

mailed_same : (s t : PoolState) (r : Stepped) (machine index : ℕ) (o : Option StartdValue) (does : StartdValue → After) → IsSomeAnd o (λ v. IsReceivedStep machine index (does v) s t r) → Same s t
mailed_same s t r machine index None does h = absurd h
mailed_same s t r machine index (Some v) does h = same_by s t _ h.pool (record { jobs = refl; pending = refl })

-- ---- events of the schedd
heard_few : (who : Daemon) (index reading : ℕ) (judged : Option Judgement) (s t : PoolState) (r : Stepped) (o : Option Sent) → HasFewJobs s → IsSomeAnd o (λ sent. Receives who index sent.mail reading judged s t r) → HasFewJobs t
heard_few who index reading judged s t r None few h = absurd h
heard_few Schedd index reading judged s t r (Some sent) few h = few_by t _ h.pool (few.0, planned_few s.next_tx _ s.counts.jobs few.0)
heard_few (Startd machine) index reading judged s t r (Some sent) few h = same_few s t few (mailed_same s t r machine index (slice_get s.machines machine) (λ v. after_mail v sent.mail judged reading) h)
heard_few Matchmaker index reading judged s t r (Some sent) few h = same_few s t few (same_by s t _ h.0 (record { jobs = refl; pending = refl }))

ticked_few : (who : Daemon) (reading : ℕ) (s t : PoolState) (r : Stepped) → HasFewJobs s → Ticks who reading s t r → HasFewJobs t
ticked_few Schedd reading s t r few h = few_by t _ h.pool (few.0, planned_few s.next_tx h.step.plan s.counts.jobs few.0)
ticked_few (Startd machine) reading s t r few h = same_few s t few (startd_same s t r machine (slice_get s.machines machine) (λ v. after_tick v reading) (λ v. []) h)
ticked_few Matchmaker reading s t r few h = same_few s t few (same_by s t s h.0 (record { jobs = refl; pending = refl }))

-- what was to be logged is
unfinished_few : (s : PoolState) (q : KeyedAds) (leaver : Leaver) (what : Unfinished) → jobs_after what s.counts.jobs ≤ MAX_JOBS → HasFewJobs (after_unfinished q leaver what s)
unfinished_few s q leaver (Submission cluster count) few = (few, few)
unfinished_few s q leaver (Plan pl) few = (few, few)

module _ (read : List ℕ → Option ClaimId) (reads : IsReader read) (s : PoolState) (few : HasFewJobs s) where
  to_log : (o : Option Pending) → s.pending ≡ o → jobs_then o s.counts.jobs ≤ MAX_JOBS
  to_log o is = subst (λ (x : Option Pending). jobs_then x s.counts.jobs ≤ MAX_JOBS) is few.1

  logged_few : (o : Option Pending) (t : PoolState) (r : Stepped) → s.pending ≡ o → IsSomeAnd o (λ x. IsLogged s x t r) → HasFewJobs t
  logged_few None t r is does = absurd does
  logged_few (Some x) t r is does = few_by t _ (does.pool read reads) (unfinished_few s does.queue (leaver_of read s.queue x.what) x.what (to_log (Some x) is))

  with_few : (o : Option Pending) (t : PoolState) (reading : ℕ) → s.pending ≡ o → IsSomeAnd o (λ x. IsBackWith s x reading t) → HasFewJobs t
  with_few None t reading is does = absurd does
  with_few (Some x) t reading is does = let small = to_log (Some x) is in few_by t _ (does.pool read reads) (small, small)

  back_few : (kept_tx : Bool) (t : PoolState) (reading : ℕ) → ScheddIsBack s kept_tx reading t → HasFewJobs t
  back_few false t reading does = few_by t _ does.pool (few.0, few.0)
  back_few true t reading does = with_few s.pending t reading refl does

  comes_few : (who : Daemon) (kept_tx : Bool) (reading : ℕ) (b : PoolState) (r : Stepped) → ComesBack who kept_tx reading s b r → HasFewJobs b
  comes_few Schedd kept_tx reading b r h = back_few kept_tx b reading h.0
  comes_few (Startd machine) kept_tx reading b r h = same_few s b few (startd_same s b r machine (slice_get s.machines machine) (λ v. after_reboot v reading) (λ v. []) h)
  comes_few Matchmaker kept_tx reading b r h = same_few s b few (same_by s b s h.0 (record { jobs = refl; pending = refl }))

  not_over : (jobs count : ℕ) → jobs_refusal jobs count ≡ None → jobs + count ≤ MAX_JOBS
  not_over jobs count none = by (is_over jobs count) refl none
    where
      by : (b : Bool) → is_over jobs count ≡ b → (if b then Some error.Jobs else None) ≡ None → jobs + count ≤ MAX_JOBS
      by true is h = cc
      by false is h = let small = ltb-false MAX_JOBS (jobs + count) is in omega (arith, small)

  submitted_few : (boot count : ℕ) → submit_refusal boot count s ≡ None → s.counts.jobs + count ≤ MAX_JOBS
  submitted_few boot count free =
      let jobs = (first_none (schedd_refusal boot s) (jobs_refusal s.counts.jobs count ∷ []) free).1 in
      not_over s.counts.jobs count (first_none (jobs_refusal s.counts.jobs count) [] jobs).0

module _ (read : List ℕ → Option ClaimId) (reads : IsReader read) (s : PoolState) (few : HasFewJobs s) where
  happens_few : (e : Event) (t : PoolState) (r : Stepped) → IsRefusal e s None → Happens e (counts_brought e s) t r → HasFewJobs t
  unfolding Happens
  happens_few (event.Submit boot jobs reading) t r free h = few_by t _ h.pool
      (few.0, submitted_few read reads s few boot (length jobs) (sym (event_free (event.Submit boot jobs reading) s free)))
  happens_few (event.Order v job reading) t r free h = same_few s t few (same_by s t (gives (position (is_due_for v job reading) s.orders) v job (counts_brought (event.Order v job reading) s)) h.0
      (let same = given_same (counts_brought (event.Order v job reading) s) (position (is_due_for v job reading) s.orders) v job in record { jobs = same.jobs; pending = same.pending }))
  happens_few (event.Receive who boot index reading judged mismatch) t r free h = heard_few who index reading judged (counts_brought (event.Receive who boot index reading judged mismatch) s) t r (slice_get s.mails.sent index) few h
  happens_few (event.Tick who boot reading) t r free h = ticked_few who reading (counts_brought (event.Tick who boot reading) s) t r few h
  happens_few (event.Check boot job reading) t r free h = few_by t _ h.pool (few.0, planned_few s.next_tx _ s.counts.jobs few.0)
  happens_few (event.Logged boot receipt) t r free h = logged_few read reads (counts_brought (event.Logged boot receipt) s) few s.pending t r refl h
  happens_few (event.Ended machine boot receipt reading) t r free h =
      let b : PoolState = counts_brought (event.Ended machine boot receipt reading) s in
      same_few b t few (startd_same b t r machine (slice_get s.machines machine) (λ v. after_end v receipt.item reading) (λ v. ends_after receipt.item.run v (after_end v receipt.item reading)) h)
  happens_few (event.Crash who) t r free h = same_few s t few (same_by s t (crashes who (counts_brought (event.Crash who) s)) h.0 (record { jobs = refl; pending = refl }))
  happens_few (event.Reopen who kept_tx ended reading) t r free h =
      same_few h.back t (comes_few read reads (counts_brought (event.Reopen who kept_tx ended reading) s) few who (is_some kept_tx) reading h.back r h.comes)
      (same_by h.back t _ h.pool (record { jobs = refl; pending = refl }))
  happens_few (event.Matches list judged reading) t r free h = same_few s t few (same_by s t _ h.pool (record { jobs = refl; pending = refl }))
  happens_few (event.Close length reading mismatch) t r free h = same_few s t few (same_by s t _ h.0 (record { jobs = refl; pending = refl }))

  pub event_few_jobs : (e : Event) (r : Stepped) (new : PoolState) → IsRefusal e s None → Reacts s e r new → HasFewJobs new
  event_few_jobs e r new free reacts = few_by new _ reacts.pool (happens_few e reacts.then_pool r free reacts.happens)

-- ---- the opening
pub opening_few_jobs : (o : Opening) (s : PoolState) → CanOpen o → IsOpenedBy o s → HasFewJobs s
opening_few_jobs o s can opened = (small, subst (λ (x : Option Pending). jobs_then x s.counts.jobs ≤ MAX_JOBS) (sym opened.pending) small)
  where
    small : s.counts.jobs ≤ MAX_JOBS
    small = subst (λ n. n ≤ MAX_JOBS) (one_count o.queue can.count s.counts.jobs can.count_is (s.acked, opened.acked, opened.jobs)) can.few_jobs

-- ---- histories
leads_few_jobs : (read : List ℕ → Option ClaimId) → IsReader read → (s t : PoolState) (list : List Step) → HasFewJobs s → LeadsTo s list t → HasFewJobs t
leads_few_jobs read reads s t [] few same = few_by t s same few
leads_few_jobs read reads s t (h ∷ hs) few (new, accepts, rest) = leads_few_jobs read reads new t hs (event_few_jobs read reads s few h.event h.answer new accepts.accepted accepts.reacts) rest

pub history_few_jobs : (read : List ℕ → Option ClaimId) → IsReader read → (o : Opening) (list : List Step) (s : PoolState) → IsHistory o list s → HasFewJobs s
history_few_jobs read reads o list s h = leads_few_jobs read reads h.opening s list (opening_few_jobs o h.opening h.can h.opened) h.leads

-- What is unfinished after an event can be logged.
use Rattle.std.proofs.Common.{◌≡◌, ◌⊎◌, inl, inr, ℕ, Bool, true, false, List, [], Option, Some, None, is_some, IsSomeAnd, slice_get, position, refl, sym, ◌∙◌, ap, subst}
use Rattle.std.specs.Prelude.{IfSome}
use Rattle.ad_eval.specs.Judgement.{Judgement}
use Rattle.claim_id.specs.declared.numbers.ClaimId.{ClaimId}
use Rattle.claim_id.specs.declared.numbers.JobId.{JobId}
use Rattle.claim_id.specs.declared.order.Verb.{Verb}
use Rattle.pool_parts.specs.declared.answer.Stepped.{Stepped}
use Rattle.pool_parts.specs.declared.event.Event.{Event}
use Rattle.pool_parts.specs.declared.event.Event.TheVariants as event
use Rattle.pool_outer.specs.declared.gate.Daemon.{Daemon}
use Rattle.pool_outer.specs.declared.gate.Daemon.TheVariants.{Schedd, Startd, Matchmaker}
use Rattle.pool_parts.specs.declared.pending.Pending.{Pending}
use Rattle.pool_parts.specs.declared.pending.Unfinished.{Unfinished}
use Rattle.pool_parts.specs.declared.pending.Unfinished.TheVariants.{Submission, Plan}
use Rattle.pool_view.specs.Protocol.{Protocol}
use Rattle.pool_state.specs.declared.state.PoolState.{PoolState}
use Rattle.pool_tables.specs.OrderTables.{is_due_for}
use Rattle.pool_tables.specs.declared.sent.Sent.{Sent}
use Rattle.pool_view.specs.declared.run.EndReport.{EndReport}
use Rattle.queue_tx.specs.Queues.{KeyedAds}
use Rattle.schedd_plan.specs.declared.plan.JobPlan.{JobPlan}
use Rattle.pool_rules.specs.Answers.{pending_by}
use Rattle.pool_rules.specs.Few.{AreFew}
use Rattle.pool_rules.specs.Histories.{Accepts}
use Rattle.schedd_state.specs.Reopening.{IsReader}
use Rattle.startd_core.specs.Startds.{After, StartdValue, after_end, after_mail, after_reboot, after_tick}
use Rattle.pool_rules.specs.Happens.{ComesBack, Happens, Receives, Ticks, counts_brought, crashes}
use Rattle.pool_rules.specs.Logging.{IsBackWith, IsLogged, Leaver, ScheddIsBack, after_unfinished, leaver_of}
use Rattle.pool_rules.specs.Masters.{gives}
use Rattle.pool_rules.specs.Startds.{IsReceivedStep, IsStartdStep, ends_after}
use Rattle.pool_rules.specs.Kept.{IsKept}
use Rattle.pool_parts.specs.Loggable.{CanBeLogged, IsLoggableQueue, KnowsHeader}
use Rattle.pool_rules.specs.Unfinished.{ArePlansShort, CanFinish, IsShort}
use Rattle.pool_rules.proofs.LogEvents.{event_loggable}
use Rattle.pool_rules.proofs.LogHeaders.{Knows, check_knows, mail_knows, tick_knows}
use Rattle.pool_rules.proofs.LogPools.{kept_plan_logs, submitted_logs}
use Rattle.pool_rules.proofs.PoolEvents.{event_keeps}

-- ---- what is unfinished after an event: what was, nothing, or a plan that knows of the header
abbrev IsPlanned : KeyedAds → Option Pending → Type 0
IsPlanned q None = Unit {0}
IsPlanned q (Some x) = (pl : JobPlan) × (x.what ≡ Plan pl) × KnowsHeader q pl

abbrev Stays : PoolState → PoolState → Type 0
Stays s t = (t.pending ≡ s.pending) × (t.queue ≡ s.queue)

abbrev Pends : PoolState → PoolState → Type 0
Pends s t = Stays s t ⊎ IsPlanned t.queue t.pending

same_by : (s t u : PoolState) → t ≡ u → Stays s u → Pends s t
same_by s t u is same = inl (subst (λ (x : PoolState). Stays s x) (sym is) same)

planned_by : (s t u : PoolState) → t ≡ u → IsPlanned u.queue u.pending → Pends s t
planned_by s t u is planned = inr (subst (λ (x : PoolState). IsPlanned x.queue x.pending) (sym is) planned)

planned : (q : KeyedAds) (number : ℕ) (o : Option JobPlan) → Knows q o → IsPlanned q (pending_by number o)
planned q number None knows = tt
planned q number (Some pl) knows = (pl, refl, knows)

given_same : (s : PoolState) (o : Option ℕ) (v : Verb) (job : JobId) → Stays s (gives o v job s)
given_same s None v job = (refl, refl)
given_same s (Some place) v job = (refl, refl)

startd_same : (s t : PoolState) (r : Stepped) (machine : ℕ) (o : Option StartdValue) (does : StartdValue → After) (ends : StartdValue → List EndReport) → IsSomeAnd o (λ v. IsStartdStep machine (does v) (ends v) s t r) → Pends s t
startd_same s t r machine None does ends h = absurd h
startd_same s t r machine (Some v) does ends h = same_by s t _ h.pool (refl, refl)

mailed_same : (s t : PoolState) (r : Stepped) (machine index : ℕ) (o : Option StartdValue) (does : StartdValue → After) → IsSomeAnd o (λ v. IsReceivedStep machine index (does v) s t r) → Pends s t
mailed_same s t r machine index None does h = absurd h
mailed_same s t r machine index (Some v) does h = same_by s t _ h.pool (refl, refl)

heard : (who : Daemon) (index reading : ℕ) (judged : Option Judgement) (s t : PoolState) (r : Stepped) (o : Option Sent) → IsSomeAnd o (λ sent. Receives who index sent.mail reading judged s t r) → Pends s t
heard who index reading judged s t r None h = absurd h
heard Schedd index reading judged s t r (Some sent) h = planned_by s t _ h.pool (planned s.queue s.next_tx _ (mail_knows s.schedd s.queue sent.mail reading))
heard (Startd machine) index reading judged s t r (Some sent) h = mailed_same s t r machine index (slice_get s.machines machine) (λ v. after_mail v sent.mail judged reading) h
heard Matchmaker index reading judged s t r (Some sent) h = same_by s t _ h.0 (refl, refl)

ticked : (who : Daemon) (reading : ℕ) (s t : PoolState) (r : Stepped) → Ticks who reading s t r → Pends s t
ticked Schedd reading s t r h = planned_by s t _ h.pool (planned s.queue s.next_tx h.step.plan (tick_knows s.schedd s.queue reading h.schedd h.step h.ticked))
ticked (Startd machine) reading s t r h = startd_same s t r machine (slice_get s.machines machine) (λ v. after_tick v reading) (λ v. []) h
ticked Matchmaker reading s t r h = same_by s t s h.0 (refl, refl)

finished : (s : PoolState) (q : KeyedAds) (leaver : Leaver) (what : Unfinished) → IsPlanned (after_unfinished q leaver what s).queue (after_unfinished q leaver what s).pending
finished s q leaver (Submission cluster count) = tt
finished s q leaver (Plan pl) = tt

module _ (read : List ℕ → Option ClaimId) (reads : IsReader read) (s : PoolState) where
  logged : (o : Option Pending) (t : PoolState) (r : Stepped) → s.pending ≡ o → IsSomeAnd o (λ x. IsLogged s x t r) → Pends s t
  logged None t r is does = absurd does
  logged (Some x) t r is does = planned_by s t _ (does.pool read reads) (finished s does.queue (leaver_of read s.queue x.what) x.what)

  with_kept : (o : Option Pending) (t : PoolState) (reading : ℕ) → s.pending ≡ o → IsSomeAnd o (λ x. IsBackWith s x reading t) → Pends s t
  with_kept None t reading is does = absurd does
  with_kept (Some x) t reading is does = planned_by s t _ (does.pool read reads) tt

  back : (kept_tx : Bool) (t : PoolState) (reading : ℕ) → ScheddIsBack s kept_tx reading t → Pends s t
  back false t reading does = planned_by s t _ does.pool tt
  back true t reading does = with_kept s.pending t reading refl does

  comes : (who : Daemon) (kept_tx : Bool) (reading : ℕ) (b : PoolState) (r : Stepped) → ComesBack who kept_tx reading s b r → Pends s b
  comes Schedd kept_tx reading b r h = back kept_tx b reading h.0
  comes (Startd machine) kept_tx reading b r h = startd_same s b r machine (slice_get s.machines machine) (λ v. after_reboot v reading) (λ v. []) h
  comes Matchmaker kept_tx reading b r h = same_by s b s h.0 (refl, refl)

on_by : (s b t : PoolState) → Stays b t → Pends s b → Pends s t
on_by s b t same (inl h) = inl (same.0 ∙ h.0, same.1 ∙ h.1)
on_by s b t same (inr h) = inr (subst (λ (q : KeyedAds). IsPlanned q t.pending) (sym same.1) (subst (λ (o : Option Pending). IsPlanned b.queue o) (sym same.0) h))

-- ---- it can be logged
can_by : (s t : PoolState) → Stays s t → CanFinish s → CanFinish t
can_by s t same can = subst (λ (q : KeyedAds). IfSome t.pending (λ y. CanBeLogged y.tx q)) (sym same.1)
    (subst (λ (o : Option Pending). IfSome o (λ y. CanBeLogged y.tx s.queue)) (sym same.0) can)

by_pends : (q : Protocol) (s t : PoolState) → IsKept q t → IsLoggableQueue t.queue → ArePlansShort t → CanFinish s → Pends s t → CanFinish t
by_pends q s t kept logs short can (inl same) = can_by s t same can
by_pends q s t kept logs short can (inr is) = by t.pending refl is short
  where
    by : (o : Option Pending) → t.pending ≡ o → IsPlanned t.queue o → IfSome o (λ y. IsShort y.what) → IfSome t.pending (λ y. CanBeLogged y.tx t.queue)
    by None here is short = subst (λ (o : Option Pending). IfSome o (λ y. CanBeLogged y.tx t.queue)) (sym here) tt
    by (Some x) here is short =
        subst (λ (o : Option Pending). IfSome o (λ y. CanBeLogged y.tx t.queue)) (sym here)
        (kept_plan_logs q t x is.0 kept logs here is.1 is.2 (subst (λ (u : Unfinished). IsShort u) is.1 short))

abbrev IsOther : Event → Type 0
IsOther (event.Submit boot jobs reading) = ⊥
IsOther _ = Unit {0}

module _ (read : List ℕ → Option ClaimId) (reads : IsReader read) (s : PoolState) where
  pends : (e : Event) (t : PoolState) (r : Stepped) → IsOther e → Happens e (counts_brought e s) t r → Pends s t
  unfolding Happens
  pends (event.Submit boot jobs reading) t r other h = absurd other
  pends (event.Order v job reading) t r other h =
      same_by s t (gives (position (is_due_for v job reading) s.orders) v job (counts_brought (event.Order v job reading) s)) h.0
      (given_same (counts_brought (event.Order v job reading) s) (position (is_due_for v job reading) s.orders) v job)
  pends (event.Receive who boot index reading judged mismatch) t r other h = heard who index reading judged (counts_brought (event.Receive who boot index reading judged mismatch) s) t r (slice_get s.mails.sent index) h
  pends (event.Tick who boot reading) t r other h = ticked who reading (counts_brought (event.Tick who boot reading) s) t r h
  pends (event.Check boot job reading) t r other h = planned_by s t _ h.pool (planned s.queue s.next_tx _ (check_knows s.schedd s.queue job reading))
  pends (event.Logged boot receipt) t r other h = logged read reads (counts_brought (event.Logged boot receipt) s) s.pending t r refl h
  pends (event.Ended machine boot receipt reading) t r other h =
      startd_same (counts_brought (event.Ended machine boot receipt reading) s) t r machine (slice_get s.machines machine) (λ v. after_end v receipt.item reading) (λ v. ends_after receipt.item.run v (after_end v receipt.item reading)) h
  pends (event.Crash who) t r other h = same_by s t (crashes who (counts_brought (event.Crash who) s)) h.0 (refl, refl)
  pends (event.Reopen who kept_tx ended reading) t r other h =
      on_by s h.back t (ap (λ (y : PoolState). y.pending) h.pool, ap (λ (y : PoolState). y.queue) h.pool)
      (comes read reads (counts_brought (event.Reopen who kept_tx ended reading) s) who (is_some kept_tx) reading h.back r h.comes)
  pends (event.Matches list judged reading) t r other h = same_by s t _ h.pool (refl, refl)
  pends (event.Close length reading mismatch) t r other h = same_by s t _ h.0 (refl, refl)

module _ (read : List ℕ → Option ClaimId) (reads : IsReader read) (s : PoolState) (p : Protocol) (kept : IsKept p s) (few : AreFew s) (logs : IsLoggableQueue s.queue) (can : CanFinish s) where
  other_finishes : (e : Event) (r : Stepped) (new : PoolState) → IsOther e → Accepts s e r new → ArePlansShort new → CanFinish new
  other_finishes e r new other accepts short =
      let goes = event_keeps read reads p s kept few e r new accepts.given accepts.accepted accepts.reacts in
      by_pends _ s new goes.kept (event_loggable p s new e r kept logs can accepts.reacts) short can
      (on_by s accepts.reacts.then_pool new (ap (λ (y : PoolState). y.pending) accepts.reacts.pool, ap (λ (y : PoolState). y.queue) accepts.reacts.pool)
      (pends read reads s e accepts.reacts.then_pool r other accepts.reacts.happens))

  pub event_finishes : (e : Event) (r : Stepped) (new : PoolState) → Accepts s e r new → ArePlansShort new → CanFinish new
  event_finishes (event.Submit boot jobs reading) r new accepts short = submitted_logs p s new boot jobs reading r kept few logs accepts.given.1 accepts.accepted accepts.reacts
  event_finishes (event.Order v job reading) r new accepts short = other_finishes (event.Order v job reading) r new tt accepts short
  event_finishes (event.Receive who boot index reading judged mismatch) r new accepts short = other_finishes (event.Receive who boot index reading judged mismatch) r new tt accepts short
  event_finishes (event.Tick who boot reading) r new accepts short = other_finishes (event.Tick who boot reading) r new tt accepts short
  event_finishes (event.Check boot job reading) r new accepts short = other_finishes (event.Check boot job reading) r new tt accepts short
  event_finishes (event.Logged boot receipt) r new accepts short = other_finishes (event.Logged boot receipt) r new tt accepts short
  event_finishes (event.Ended machine boot receipt reading) r new accepts short = other_finishes (event.Ended machine boot receipt reading) r new tt accepts short
  event_finishes (event.Crash who) r new accepts short = other_finishes (event.Crash who) r new tt accepts short
  event_finishes (event.Reopen who kept_tx ended reading) r new accepts short = other_finishes (event.Reopen who kept_tx ended reading) r new tt accepts short
  event_finishes (event.Matches list judged reading) r new accepts short = other_finishes (event.Matches list judged reading) r new tt accepts short
  event_finishes (event.Close length reading mismatch) r new accepts short = other_finishes (event.Close length reading mismatch) r new tt accepts short

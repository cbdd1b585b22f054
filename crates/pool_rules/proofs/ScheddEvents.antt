-- Events of the schedd that may plan something keep a pool.
use Rattle.std.proofs.Common.{max, ◌≡◌, inl, inr, ℕ, Bool, true, false, List, [], ◌∷◌, Option, Some, None, is_some, IsSomeAnd, if◌then◌else◌, slice_get, refl, sym, ◌∙◌, ap, subst}
use Rattle.std.specs.Map.{lookup}
use Rattle.std.proofs.Math.Nat.{le-max_right}
use Rattle.ad_eval.specs.Judgement.{Judgement, Mismatch}
use Rattle.ad_tree.specs.Ad.{Attributes}
use Rattle.claim_id.specs.declared.numbers.JobId.{JobId}
use Rattle.pool_parts.specs.declared.answer.Stepped.{Stepped}
use Rattle.pool_parts.specs.declared.event.Event.TheVariants as event
use Rattle.pool_mail.specs.declared.mail.Mail.{Mail}
use Rattle.pool_mail.specs.declared.mail.Mail.TheVariants as mail
use Rattle.pool_outer.specs.declared.gate.Daemon.TheVariants.{Schedd}
use Rattle.pool_parts.specs.declared.finished.FinishedJob.{FinishedJob}
use Rattle.pool_view.specs.Protocol.{Protocol}
use Rattle.pool_view.specs.ProtocolMove.{ProtocolMove, protocol_after_all}
use Rattle.pool_rules.specs.Refusals.{IsAdRefusal, IsEventRefusal, receive_refusal}
use Rattle.pool_state.specs.declared.state.PoolState.{PoolState}
use Rattle.pool_view.specs.AbstractStep.{AbstractStep, Order, Time}
use Rattle.pool_state.specs.PoolJobs.{has_job, has_job_by}
use Rattle.pool_tables.specs.declared.sent.Sent.{Sent}
use Rattle.queue_tx.specs.declared.key.Key.{Key}
use Rattle.queue_tx.specs.declared.key.Key.TheVariants.{Proc}
use Rattle.queue_tx.specs.Keys.{same_key}
use Rattle.queue_tx.specs.Queues.{KeyedAds, ad_at}
use Rattle.schedd_core.specs.Checks.{after_check}
use Rattle.schedd_core.specs.Logging.{IsReopened, after_plan, reopened}
use Rattle.schedd_core.specs.PlanChanges.{moves_of_order, pends}
use Rattle.schedd_core.specs.Rows.{after_mail}
use Rattle.schedd_core.specs.ScheddParts.{Fits}
use Rattle.schedd_state.specs.Schedds.{After, ScheddValue}
use Rattle.schedd_core.proofs.LostPlans.{check_as, mail_as, tick_as}
use Rattle.schedd_core.proofs.Marks.{going_passed, moved_passed}
use Rattle.schedd_plan.specs.declared.plan.JobPlan.{JobPlan}
use Rattle.schedd_plan.specs.declared.plan.JobPlan.TheVariants as plan
use Rattle.pool_parts.specs.Plans.{ordered_job}
use Rattle.pool_rules.specs.Linked.{Awaits, IsLinked, StayLinked}
use Rattle.pool_rules.specs.PoolParts.{Awaited, NewJobs, Planned, PoolParts}
use Rattle.pool_rules.specs.ScheddEvents.{is_known_by, job_removed, moves_of_schedd_mail, orders_of_mail, parts_with_schedd}
use Rattle.pool_rules.proofs.ScheddPlans.{check_linked, mail_linked, remove_orders, tick_linked}
use Rattle.pool_rules.specs.Deeds.{ordered_by, schedd_acts}
use Rattle.pool_rules.specs.Happens.{Happens, Receives, is_known}
use Rattle.pool_rules.specs.Parts.{entry_done_by, parts_of}
use Rattle.pool_rules.specs.Schedds.{IsLook, ScheddTicks, after_look, after_receipt_of, jobs_in}
use Rattle.pool_rules.specs.Kept.{GoesOn, IsKept, at_reading}
use Rattle.pool_rules.specs.Steps.{IsOrderStep, IsStepOf}
use Rattle.pool_rules.proofs.HistoryTraces.{look_removes}
use Rattle.pool_rules.proofs.ScheddSteps.{order_makes, pends_make, schedd_mail_makes}
use Rattle.pool_rules.proofs.Machines.{at_place}
use Rattle.pool_rules.proofs.Mailing.{mail_in}
use Rattle.pool_rules.proofs.Refusing.{then_none}
use Rattle.pool_rules.proofs.ScheddGoing.{check_idle, goes_after_reading, none_awaited, none_waiting, receipt_goes, receive_idle, schedd_goes, tick_idle}

-- ---- a mail
-- the pool has the job, or had it, as its parts do
known_as : (ad : Option Attributes) (f : Option FinishedJob) → has_job_by ad (is_some f) ≡ is_known_by ad (entry_done_by f)
known_as None None = refl
known_as None (Some f) = refl
known_as (Some ad) f = refl

abbrev one_where : JobId → Bool → List JobId
one_where job known = if known then job ∷ [] else []

removed_where : (job : JobId) (known : Bool) → ordered_by (mail.Remove job) known ≡ one_where job known
removed_where job true = refl
removed_where job false = refl

orders_are : (p : Protocol) (s : PoolState) (m : Mail) (reading : ℕ) → IsLinked p (parts_of (at_reading reading s)) → ordered_by m (is_known m s) ≡ orders_of_mail (parts_of (at_reading reading s)) m reading
orders_are p s (mail.Remove job) reading linked =
    removed_where job (has_job job s)
    ∙ ap (one_where job) (known_as (ad_at (Proc job) s.queue) (lookup (same_key (Proc job)) s.finished))
    ∙ sym (remove_orders p (parts_of (at_reading reading s)) job reading linked)
orders_are p s (mail.Update slot) reading linked = refl
orders_are p s (mail.Matched found) reading linked = refl
orders_are p s (mail.Ask claim job ad by_priority) reading linked = refl
orders_are p s (mail.Granted claim job) reading linked = refl
orders_are p s (mail.Denied claim run job why) reading linked = refl
orders_are p s (mail.Activate run job ad until) reading linked = refl
orders_are p s (mail.Alive run until) reading linked = refl
orders_are p s (mail.Seen run until) reading linked = refl
orders_are p s (mail.Stop run) reading linked = refl
orders_are p s (mail.Release claim) reading linked = refl
orders_are p s (mail.Gone run kept) reading linked = refl
orders_are p s (mail.Ended run how) reading linked = refl
orders_are p s (mail.Hold job) reading linked = refl
orders_are p s (mail.Resume job) reading linked = refl

received : (p : Protocol) (P : AbstractStep → Type 0) (s : PoolState) (index : ℕ) (sent : Sent) (reading : ℕ) → P (Time (max s.latest reading)) → ((k : AbstractStep) → IsOrderStep sent.mail k → P k)
    → IsKept p s → s.pending ≡ None → slice_get s.mails.sent index ≡ Some sent → GoesOn p P (at_reading reading (after_receipt_of index sent.mail (is_known sent.mail s) (after_mail s.schedd s.queue sent.mail reading) s))
received p P s index sent reading time each kept none is =
    goes_after_reading p P s (at_reading reading (after_receipt_of index m (is_known m s) a s)) reading time kept
    (λ q now. receipt_goes q P (schedd_acts a.schedd a.step (ordered_by m (is_known m s)) t) index
    (schedd_goes q P t (moves_of_schedd_mail q.pool.jobs (parts_of t) m reading) a.schedd a.step (orders_of_mail (parts_of t) m reading) (ordered_by m (is_known m s)) now
    (schedd_mail_makes P q.pool.jobs (parts_of t) m reading each)
    (mail_linked q (parts_of t) m reading now.linked (none_awaited t none) (mail_in sent s.mails.sent (at_place sent s.mails.sent index is)))
    (orders_are q s m reading now.linked)
    (going_passed s.queue s.schedd a.schedd (mail_as s.queue s.schedd (none_waiting q t now none) m reading).looks now.passed)))
  where
    t : PoolState
    t = at_reading reading s

    m : Mail
    m = sent.mail

    a : After
    a = after_mail s.schedd s.queue sent.mail reading

-- ---- a tick
ticked : (p : Protocol) (P : AbstractStep → Type 0) (s new : PoolState) (r : Stepped) (reading : ℕ) → P (Time (max s.latest reading)) → IsKept p s → s.pending ≡ None → ScheddTicks s reading new r
    → GoesOn p P (at_reading reading new)
ticked p P s new r reading time kept none does =
    subst (λ (x : PoolState). GoesOn p P (at_reading reading x)) (sym does.pool)
    (goes_after_reading p P s (at_reading reading (schedd_acts does.schedd does.step [] s)) reading time kept
    (λ q now. schedd_goes q P t (pends q.pool.jobs does.step.plan) does.schedd does.step [] [] now
    (pends_make P q.pool.jobs does.step.plan)
    (tick_linked q (parts_of t) does.schedd does.step reading now.linked (none_awaited t none) (le-max_right s.latest reading) does.ticked)
    refl
    (going_passed s.queue s.schedd does.schedd (tick_as s.queue s.schedd (none_waiting q t now none) reading does.schedd does.step does.ticked).looks now.passed)))
  where
    t : PoolState
    t = at_reading reading s

-- ---- a look at the periodic expressions of a job
-- no link rests on how far all jobs were looked at
abbrev pub marked : Option Key → ScheddValue → ScheddValue
marked mark v = record v { passed = mark }

marked_fits : (pl : JobPlan) (v : ScheddValue) (mark : Option Key) (q : KeyedAds) → Fits q (after_plan pl v) → Fits q (after_plan pl (marked mark v))
unfolding after_plan
marked_fits (plan.PutIdle job) v mark q h = h
marked_fits (plan.PutHeld job reason) v mark q h = h
marked_fits (plan.Complete job completion) v mark q h = h
marked_fits (plan.Remove job) v mark q h = h
marked_fits (plan.MarkRemoved job) v mark q h = h
marked_fits (plan.MarkHeld job reason) v mark q h = h
marked_fits (plan.MarkRunning job) v mark q h = h
marked_fits (plan.Lengthen job until) v mark q h = h
marked_fits (plan.Grant job claim number until header) v mark q h = h

marked_back : (v : ScheddValue) (mark : Option Key) (q : KeyedAds) (reading : ℕ) (back : ScheddValue) → IsReopened (marked mark v) q reading back → IsReopened v q reading back
unfolding reopened
marked_back v mark q reading back r = record { jobs = r.jobs; under = r.under; schedd = r.schedd }

abbrev pub parts_marked : Option Key → PoolParts → PoolParts
parts_marked mark a = record a { schedd = marked mark a.schedd }

marked_awaits : (p : Protocol) (a : PoolParts) (mark : Option Key) (o : Option Awaited) → Awaits p a o → Awaits p (parts_marked mark a) o
marked_awaits p a mark None w = record { change = w.change; waiting = w.waiting; fits = w.fits }
marked_awaits p a mark (Some (NewJobs ids tx)) w = record {
  jobs = w.jobs;
  named = w.named;
  change = w.change;
  brings = w.brings;
  idle = w.idle;
  fits = w.fits;
}
marked_awaits p a mark (Some (Planned pl)) w = record {
  change = w.change;
  waiting = w.waiting;
  fitting = w.fitting;
  fits = λ new h. marked_fits pl a.schedd mark new (w.fits new h);
  placed = w.placed;
  unplanned = w.unplanned;
  lost = record {
    fits = w.lost.fits;
    idle = w.lost.idle;
    left = w.lost.left;
    next = w.lost.next;
    back = λ reading new r. w.lost.back reading new (marked_back a.schedd mark a.queue reading new r);
  };
}

pub mark_linked : (p : Protocol) (a : PoolParts) (mark : Option Key) → IsLinked p a → IsLinked p (parts_marked mark a)
mark_linked p a mark linked = record {
  facts = linked.facts;
  safe = linked.safe;
  moment = linked.moment;
  acked = linked.acked;
  ordered = linked.ordered;
  reports = linked.reports;
  slots = linked.slots;
  schedd = record { jobs = linked.schedd.jobs; next = linked.schedd.next; marked = linked.schedd.marked };
  finished = linked.finished;
  startds = linked.startds;
  mails = linked.mails;
  claims = linked.claims;
  granted = linked.granted;
  awaited = marked_awaits p a mark a.awaited linked.awaited;
}

pub mark_stays : (p : Protocol) (ms : List ProtocolMove) (a : PoolParts) (mark : Option Key) → StayLinked p ms a → StayLinked p ms (parts_marked mark a)
mark_stays p ms a mark stay = record { may = stay.may; linked = mark_linked (protocol_after_all p ms) a mark stay.linked }

-- the job that a look removes
removed_in : (o : Option JobPlan) → jobs_in (ordered_job o) ≡ job_removed o
removed_in None = refl
removed_in (Some (plan.PutIdle job)) = refl
removed_in (Some (plan.PutHeld job reason)) = refl
removed_in (Some (plan.Complete job completion)) = refl
removed_in (Some (plan.Remove job)) = refl
removed_in (Some (plan.MarkRemoved job)) = refl
removed_in (Some (plan.MarkHeld job reason)) = refl
removed_in (Some (plan.MarkRunning job)) = refl
removed_in (Some (plan.Lengthen job until)) = refl
removed_in (Some (plan.Grant job claim number until header)) = refl

looked : (p : Protocol) (P : AbstractStep → Type 0) (s new : PoolState) (r : Stepped) (job : JobId) (reading : ℕ) → P (Time (max s.latest reading)) → P (Order job)
    → IsKept p s → s.pending ≡ None → IsLook s (after_check s.schedd s.queue job reading) new r → GoesOn p P (at_reading reading new)
looked p P s new r job reading time its kept none does =
    subst (λ (x : PoolState). GoesOn p P (at_reading reading x)) (sym does.pool)
    (goes_after_reading p P s (at_reading reading (after_look a does.mark s)) reading time kept
    (λ q now. schedd_goes q P t (moves_of_order q.pool.jobs a.step.plan) (marked does.mark a.schedd) a.step (job_removed a.step.plan) (jobs_in (ordered_job a.step.plan)) now
    (order_makes P q.pool.jobs a.step.plan (λ other is. subst (λ j. P (Order j)) (look_removes s.schedd s.queue job other reading is).0 its))
    (mark_stays q (moves_of_order q.pool.jobs a.step.plan) (parts_with_schedd a.schedd a.step (job_removed a.step.plan) (parts_of t)) does.mark
    (check_linked q (parts_of t) job reading now.linked (none_awaited t none)))
    (removed_in a.step.plan)
    (moved_passed s.queue a.schedd does.mark does.passes
    (going_passed s.queue s.schedd a.schedd (check_as s.queue s.schedd (none_waiting q t now none) job reading).looks now.passed))))
  where
    t : PoolState
    t = at_reading reading s

    a : After
    a = after_check s.schedd s.queue job reading

-- ---- the events
pub mail_keeps : (p : Protocol) (s new : PoolState) (r : Stepped) (boot index reading : ℕ) (judged : Option Judgement) (mismatch : Option Mismatch) → IsKept p s
    → IsEventRefusal (event.Receive Schedd boot index reading judged mismatch) s None → Happens (event.Receive Schedd boot index reading judged mismatch) s new r
    → GoesOn p (IsStepOf (event.Receive Schedd boot index reading judged mismatch) s) (at_reading reading new)
unfolding Happens
mail_keeps p s new r boot index reading judged mismatch kept accepted happens = by (slice_get s.mails.sent index) refl happens
  where
    none : s.pending ≡ None
    none = receive_idle boot index s (then_none (receive_refusal Schedd boot index s) (IsAdRefusal (slice_get s.mails.sent index) s reading judged mismatch) accepted).0

    by : (o : Option Sent) → slice_get s.mails.sent index ≡ o → IsSomeAnd o (λ sent. Receives Schedd index sent.mail reading judged s new r)
        → GoesOn p (IsStepOf (event.Receive Schedd boot index reading judged mismatch) s) (at_reading reading new)
    by None is does = absurd does
    by (Some sent) is does = subst (λ (x : PoolState). GoesOn p (IsStepOf (event.Receive Schedd boot index reading judged mismatch) s) (at_reading reading x)) (sym does.pool)
        (received p (IsStepOf (event.Receive Schedd boot index reading judged mismatch) s) s index sent reading (inl refl)
        (λ k order. inr (subst (λ (o : Option Sent). IsSomeAnd o (λ x. IsOrderStep x.mail k)) (sym is) order)) kept none is)

pub tick_keeps : (p : Protocol) (s new : PoolState) (r : Stepped) (boot reading : ℕ) → IsKept p s → IsEventRefusal (event.Tick Schedd boot reading) s None → Happens (event.Tick Schedd boot reading) s new r → GoesOn p (IsStepOf (event.Tick Schedd boot reading) s) (at_reading reading new)
unfolding Happens
tick_keeps p s new r boot reading kept accepted happens = ticked p (IsStepOf (event.Tick Schedd boot reading) s) s new r reading refl kept (tick_idle boot reading s (sym accepted)) happens

pub look_keeps : (p : Protocol) (s new : PoolState) (r : Stepped) (boot : ℕ) (job : JobId) (reading : ℕ) → IsKept p s → IsEventRefusal (event.Check boot job reading) s None → Happens (event.Check boot job reading) s new r
    → GoesOn p (IsStepOf (event.Check boot job reading) s) (at_reading reading new)
unfolding Happens
look_keeps p s new r boot job reading kept accepted happens = looked p (IsStepOf (event.Check boot job reading) s) s new r job reading (inl refl) (inr refl) kept (check_idle boot job reading s (sym accepted)) happens

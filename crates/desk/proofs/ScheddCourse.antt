-- What each event has to do with the log: those of the schedd with what its pass says, and others
-- with nothing.
use Rattle.std.proofs.Common.{◌≡◌, ◌≢◌, ℕ, ◌+◌, ◌-◌, ◌≤◌, Bool, true, List, [], ◌∷◌, length, Option, Some, None, Ok, IsSomeAnd, is_some, slice_get, position, refl, sym, ◌∙◌, ap, subst, arith}
use Rattle.std.proofs.lemmas.Option.{none-some, same_Some}
use Rattle.desk.specs.declared.entry.Entry.{Entry}
use Rattle.desk.specs.Entries.{entry_of}
use Rattle.desk.specs.Given.{IsOwn}
use Rattle.desk.specs.Logs.{LogSoFar, log_after, log_of, log_told, log_with}
use Rattle.desk.specs.Passes.{Fits}
use Rattle.pool_parts.specs.declared.answer.Answer.{Answer}
use Rattle.pool_parts.specs.declared.answer.Answer.TheVariants as answer
use Rattle.pool_parts.specs.declared.answer.Stepped.{Stepped}
use Rattle.pool_parts.specs.declared.event.Event.{Event}
use Rattle.pool_parts.specs.declared.event.Event.TheVariants as event
use Rattle.pool_parts.specs.Answers.{kept_of}
use Rattle.pool_parts.specs.Events.{holder_of}
use Rattle.pool_mail.specs.declared.mail.Mail.{Mail}
use Rattle.pool_rules.specs.Answers.{answer_with, answered, pending_by}
use Rattle.pool_rules.specs.Happens.{ComesBack, Happens, IsDone, Receives, Ticks, boots, counts_brought, crashes}
use Rattle.pool_rules.specs.Logging.{IsBackWith, IsLogged, Leaver, ScheddIsBack, after_unfinished, leaver_of}
use Rattle.pool_rules.specs.Masters.{gives}
use Rattle.pool_rules.specs.Startds.{IsReceivedStep, IsStartdStep, StartdDoes, ends_after}
use Rattle.pool_outer.specs.declared.gate.Daemon.{Daemon}
use Rattle.pool_outer.specs.declared.gate.Daemon.TheVariants.{Schedd, Startd, Matchmaker}
use Rattle.pool_parts.specs.declared.pending.Pending.{Pending}
use Rattle.pool_parts.specs.declared.pending.Unfinished.{Unfinished}
use Rattle.pool_parts.specs.declared.pending.Unfinished.TheVariants.{Submission, Plan}
use Rattle.pool_parts.specs.Receipts.{IsReceiptRefusal, still_pending}
use Rattle.pool_rules.specs.Refusals.{IsAdRefusal, IsEventRefusal, IsReturnRefusal, Refusal, receive_refusal, schedd_refusal, tick_refusal, unless_due}
use Rattle.pool_state.specs.declared.state.PoolState.{PoolState}
use Rattle.pool_state.specs.Readings.{boot_of}
use Rattle.pool_tables.specs.declared.sent.Sent.{Sent}
use Rattle.pool_tables.specs.DaemonTables.{daemon_refusal, reopen_refusal, daemon_state}
use Rattle.pool_tables.specs.MailLists.{mail_refusal}
use Rattle.pool_tables.specs.OrderTables.{is_due_for}
use Rattle.queue_tx.specs.Operations.{Operation}
use Rattle.queue_tx.specs.Queues.{KeyedAds, queue_after}
use Rattle.receipt_roll.specs.Values.{ReceiptValue}
use Rattle.schedd_state.specs.DueChecks.{is_check_due}
use Rattle.schedd_state.specs.DueLines.{is_due}
use Rattle.schedd_plan.specs.declared.plan.JobPlan.{JobPlan}
use Rattle.startd_core.specs.Startds.{After, StartdValue, after_end, after_mail, after_reboot, after_tick}
use Rattle.desk.specs.Standing.{LogStands}
use Rattle.desk.proofs.LogCourse.{LogGoesOn, QueueGoesOn, kept_list, logged_goes, logged_list, lost_goes, none_logged, planned_goes, queue_logs, queue_stays, same_goes}
use Rattle.pool_rules.proofs.Readers.{some_reads}
use Rattle.desk.proofs.Refused.{IsOfPending, kept_pending, none_first, none_head, none_rest, none_then, not_pending, of_pending}

-- ---- events that don't log
pub record HasSameLog (s new : PoolState) : Type 0 where
  pub pending : new.pending ≡ s.pending
  pub next : new.next_tx ≡ s.next_tx
  pub queue : new.queue ≡ s.queue

by_pool : (s to new : PoolState) → HasSameLog s to → new ≡ to → HasSameLog s new
by_pool s to new same is = subst (HasSameLog s) (sym is) same

gives_log : (place : Option ℕ) (v : _) (job : _) (s : PoolState) → HasSameLog s (gives place v job s)
gives_log None v job s = record { pending = refl; next = refl; queue = refl }
gives_log (Some place) v job s = record { pending = refl; next = refl; queue = refl }

does_log : (machine : ℕ) (f : StartdValue → After) (s new : PoolState) (r : Stepped) → StartdDoes machine f s new r → HasSameLog s new
does_log machine f s new r does = by (slice_get s.machines machine) does
  where
    by : (o : Option StartdValue) → IsSomeAnd o (λ v. IsStartdStep machine (f v) [] s new r) → HasSameLog s new
    by None does = absurd does
    by (Some v) does = by_pool s _ new (record { pending = refl; next = refl; queue = refl }) does.pool

mail_log : (who : Daemon) (index : ℕ) (m : Mail) (reading : ℕ) (judged : _) (s new : PoolState) (r : Stepped) → Some who ≢ Some Schedd → Receives who index m reading judged s new r → HasSameLog s new
mail_log Schedd index m reading judged s new r other h = absurd (other refl)
mail_log (Startd machine) index m reading judged s new r other h = by (slice_get s.machines machine) h
  where
    by : (o : Option StartdValue) → IsSomeAnd o (λ v. IsReceivedStep machine index (after_mail v m judged reading) s new r) → HasSameLog s new
    by None does = absurd does
    by (Some v) does = by_pool s _ new (record { pending = refl; next = refl; queue = refl }) does.pool
mail_log Matchmaker index m reading judged s new r other h = by_pool s _ new (record { pending = refl; next = refl; queue = refl }) h.0

tick_log : (who : Daemon) (reading : ℕ) (s new : PoolState) (r : Stepped) → Some who ≢ Some Schedd → Ticks who reading s new r → HasSameLog s new
tick_log Schedd reading s new r other h = absurd (other refl)
tick_log (Startd machine) reading s new r other h = does_log machine (λ v. after_tick v reading) s new r h
tick_log Matchmaker reading s new r other h = by_pool s s new (record { pending = refl; next = refl; queue = refl }) h.0

back_log : (who : Daemon) (kept : Bool) (reading : ℕ) (s new : PoolState) (r : Stepped) → Some who ≢ Some Schedd → ComesBack who kept reading s new r → HasSameLog s new
back_log Schedd kept reading s new r other h = absurd (other refl)
back_log (Startd machine) kept reading s new r other h = does_log machine (λ v. after_reboot v reading) s new r h
back_log Matchmaker kept reading s new r other h = by_pool s s new (record { pending = refl; next = refl; queue = refl }) h.0

pub others_log : (e : Event) (s new : PoolState) (r : Stepped) → holder_of e ≢ Some Schedd → Happens e s new r → HasSameLog s new
unfolding Happens
others_log (event.Submit boot jobs reading) s new r other h = absurd (other refl)
others_log (event.Order v job reading) s new r other h = by_pool s _ new (gives_log (position (is_due_for v job reading) s.orders) v job s) h.0
others_log (event.Receive who boot index reading judged mismatch) s new r other h = by (slice_get s.mails.sent index) h
  where
    by : (o : Option Sent) → IsSomeAnd o (λ sent. Receives who index sent.mail reading judged s new r) → HasSameLog s new
    by None h = absurd h
    by (Some sent) h = mail_log who index sent.mail reading judged s new r other h
others_log (event.Tick who boot reading) s new r other h = tick_log who reading s new r other h
others_log (event.Check boot job reading) s new r other h = absurd (other refl)
others_log (event.Logged boot receipt) s new r other h = absurd (other refl)
others_log (event.Ended machine boot receipt reading) s new r other h = by (slice_get s.machines machine) h
  where
    f : StartdValue → After
    f v = after_end v receipt.item reading

    by : (o : Option StartdValue) → IsSomeAnd o (λ v. IsStartdStep machine (f v) (ends_after receipt.item.run v (f v)) s new r) → HasSameLog s new
    by None h = absurd h
    by (Some v) h = by_pool s _ new (record { pending = refl; next = refl; queue = refl }) h.pool
others_log (event.Crash who) s new r other h = by_pool s _ new (record { pending = refl; next = refl; queue = refl }) h.0
others_log (event.Reopen who kept ended reading) s new r other h =
    let back = back_log who (is_some kept) reading s h.back r other h.comes in
    by_pool s _ new (record { pending = back.pending; next = back.next; queue = back.queue }) h.pool
others_log (event.Matches list judged reading) s new r other h = by_pool s _ new (record { pending = refl; next = refl; queue = refl }) h.pool
others_log (event.Close count reading mismatch) s new r other h = by_pool s _ new (record { pending = refl; next = refl; queue = refl }) h.0

-- ---- events of the schedd
-- how the entries go on with an event, whose answer fits them
pub record ScheddGoesOn (mine : List Entry) (s : PoolState) (new_log : LogSoFar) (new : PoolState) (a : Answer) : Type 0 where
  pub goes : LogGoesOn (log_of mine) new_log new.pending s.next_tx new.next_tx
  pub fits : Fits (s.next_tx - length (log_of mine).list) mine a
  pub queue : QueueGoesOn (log_of mine) new_log s.queue new.queue

-- by an equal answer, and an equal pool
as_answered : (mine : List Entry) (s : PoolState) (f : _) (new : PoolState) (a : Answer) (r : Stepped) → r ≡ answered a
    → ScheddGoesOn mine s (log_with (kept_of a) f) new a → ScheddGoesOn mine s (log_with r.kept f) new r.answer
as_answered mine s f new a r is go = subst (λ (x : Stepped). ScheddGoesOn mine s (log_with x.kept f) new x.answer) (sym is) go

planned_fits : (mine : List Entry) (next : ℕ) (p : Option JobPlan) → length (log_of mine).list ≤ next → Fits (next - length (log_of mine).list) mine (answer_with (pending_by next p))
planned_fits mine next None few = tt
planned_fits mine next (Some p) few = omega (arith, few)

plans : (mine : List Entry) (s new : PoolState) (p : Option JobPlan) (r : Stepped) → s.pending ≡ None → new.pending ≡ pending_by s.next_tx p → new.next_tx ≡ s.next_tx → new.queue ≡ s.queue → r ≡ answered (answer_with (pending_by s.next_tx p))
    → LogStands (log_of mine) s.pending s.next_tx → ScheddGoesOn mine s (log_with r.kept (log_of mine)) new r.answer
plans mine s new p r none pending next same is stands =
    let before : LogStands (log_of mine) None s.next_tx = subst (λ o. LogStands (log_of mine) o s.next_tx) none stands in
    let go : LogGoesOn (log_of mine) (log_with (kept_of (answer_with (pending_by s.next_tx p))) (log_of mine)) (pending_by s.next_tx p) s.next_tx s.next_tx = planned_goes (log_of mine) s.next_tx p before in
    as_answered mine s (log_of mine) new (answer_with (pending_by s.next_tx p)) r is (record {
      goes = subst (λ o. LogGoesOn (log_of mine) (log_with (kept_of (answer_with (pending_by s.next_tx p))) (log_of mine)) o s.next_tx new.next_tx) (sym pending)
          (subst (λ n. LogGoesOn (log_of mine) (log_with (kept_of (answer_with (pending_by s.next_tx p))) (log_of mine)) (pending_by s.next_tx p) s.next_tx n) (sym next) go);
      fits = planned_fits mine s.next_tx p before.few;
      queue = queue_stays (log_of mine) (log_with (kept_of (answer_with (pending_by s.next_tx p))) (log_of mine)) s.queue new.queue (kept_list (kept_of (answer_with (pending_by s.next_tx p))) (log_of mine)) same;
    })

-- nothing is asked for
goes_done : (mine : List Entry) (s new : PoolState) (log : LogSoFar) (r : Stepped) → IsDone r → LogGoesOn (log_of mine) log new.pending s.next_tx new.next_tx → QueueGoesOn (log_of mine) log s.queue new.queue
    → ScheddGoesOn mine s (log_with r.kept log) new r.answer
goes_done mine s new log r is go queue = as_answered mine s log new answer.Done r is (record { goes = go; fits = tt; queue = queue })

-- a transaction is logged
logs : (mine : List Entry) (s new : PoolState) (number : ℕ) (r : Stepped) (of : IsOfPending s.pending number) → new.pending ≡ None → new.next_tx ≡ s.next_tx + 1 → queue_after s.queue of.pending.tx ≡ Ok new.queue → IsDone r
    → LogStands (log_of mine) s.pending s.next_tx → ScheddGoesOn mine s (log_with r.kept (log_told true (Some number) (log_of mine))) new r.answer
logs mine s new number r of pending next queue is stands =
    let before : LogStands (log_of mine) (Some of.pending) s.next_tx = subst (λ o. LogStands (log_of mine) o s.next_tx) of.is stands in
    let go : LogGoesOn (log_of mine) (log_told true (Some of.pending.number) (log_of mine)) None s.next_tx (s.next_tx + 1) = logged_goes (log_of mine) of.pending s.next_tx before in
    goes_done mine s new (log_told true (Some number) (log_of mine)) r is
    (subst (λ n. LogGoesOn (log_of mine) (log_told true (Some n) (log_of mine)) new.pending s.next_tx new.next_tx) (sym of.its)
    (subst (λ o. LogGoesOn (log_of mine) (log_told true (Some of.pending.number) (log_of mine)) o s.next_tx new.next_tx) (sym pending)
    (subst (λ n. LogGoesOn (log_of mine) (log_told true (Some of.pending.number) (log_of mine)) None s.next_tx n) (sym next) go)))
    (subst (λ n. QueueGoesOn (log_of mine) (log_told true (Some n) (log_of mine)) s.queue new.queue) (sym of.its)
    (queue_logs (log_of mine) (log_told true (Some of.pending.number) (log_of mine)) of.pending.tx s.queue new.queue (logged_list (log_of mine) of.pending s.next_tx before) queue))

-- it is lost
loses : (mine : List Entry) (s new : PoolState) (r : Stepped) → new.pending ≡ None → new.next_tx ≡ s.next_tx → new.queue ≡ s.queue → IsDone r
    → LogStands (log_of mine) s.pending s.next_tx → ScheddGoesOn mine s (log_with r.kept (log_told true None (log_of mine))) new r.answer
loses mine s new r pending next same is stands =
    let go : LogGoesOn (log_of mine) (log_told true None (log_of mine)) None s.next_tx s.next_tx = lost_goes (log_of mine) s.pending s.next_tx stands in
    goes_done mine s new (log_told true None (log_of mine)) r is
    (subst (λ o. LogGoesOn (log_of mine) (log_told true None (log_of mine)) o s.next_tx new.next_tx) (sym pending)
    (subst (λ n. LogGoesOn (log_of mine) (log_told true None (log_of mine)) None s.next_tx n) (sym next) go))
    (queue_stays (log_of mine) (log_told true None (log_of mine)) s.queue new.queue (none_logged (log_of mine).unlogged (log_of mine).list) same)

-- the pool once its unfinished transaction is logged
record HasLogged (s new : PoolState) (q : KeyedAds) : Type 0 where
  pending : new.pending ≡ None
  next : new.next_tx ≡ s.next_tx + 1
  queue : new.queue ≡ q

unfinished_logged : (q : KeyedAds) (leaver : Leaver) (what : Unfinished) (s : PoolState) → HasLogged s (after_unfinished q leaver what s) q
unfinished_logged q leaver (Submission cluster count) s = record { pending = refl; next = refl; queue = refl }
unfinished_logged q leaver (Plan p) s = record { pending = refl; next = refl; queue = refl }

-- the unfinished transaction, which is that of the receipt, is done to the queue
done_to : (s new : PoolState) (number : ℕ) (p : Pending) (q : KeyedAds) (of : IsOfPending s.pending number) → s.pending ≡ Some p → queue_after s.queue p.tx ≡ Ok q → new.queue ≡ q → queue_after s.queue of.pending.tx ≡ Ok new.queue
done_to s new number p q of at done is =
    let same : p ≡ of.pending = same_Some p of.pending (sym at ∙ of.is) in
    ap (λ (x : Pending). queue_after s.queue x.tx) (sym same) ∙ (done ∙ ap (λ (x : KeyedAds). Ok x) (sym is))

-- no transaction is unfinished where it does anything else
idle_schedd : (boot : ℕ) (s : PoolState) → schedd_refusal boot s ≡ None → s.pending ≡ None
idle_schedd boot s none = not_pending s.pending (none_head (still_pending s.pending) [] (none_rest (daemon_refusal Schedd boot s.daemons) (still_pending s.pending ∷ []) none))

idle_receiver : (boot index : ℕ) (s : PoolState) → receive_refusal Schedd boot index s ≡ None → s.pending ≡ None
idle_receiver boot index s none =
    let mails : Refusal = mail_refusal Schedd index s.mails in
    not_pending s.pending (none_head (still_pending s.pending) [] (none_rest mails (still_pending s.pending ∷ [])
    (none_rest (daemon_refusal Schedd boot s.daemons) (mails ∷ still_pending s.pending ∷ []) none)))

abbrev GoesWith : List Entry → PoolState → ℕ → Event → PoolState → Stepped → Type 0
GoesWith mine s place e new r = ScheddGoesOn mine s (log_after (log_of mine) (entry_of place e r.kept)) new r.answer

-- a transaction is in the log when the schedd comes back, or it is lost
back_goes : (mine : List Entry) (place : ℕ) (kept : Option (ReceiptValue (List Operation))) (ended : _) (reading : ℕ) (s back : PoolState) (r : Stepped) → IsReturnRefusal Schedd kept ended s None → ScheddIsBack s (is_some kept) reading back → IsDone r
    → LogStands (log_of mine) s.pending s.next_tx → GoesWith mine s place (event.Reopen Schedd kept ended reading) back r
back_goes mine place None ended reading s back r free is done stands =
    loses mine s back r (ap (λ (x : PoolState). x.pending) is.pool) (ap (λ (x : PoolState). x.next_tx) is.pool) (ap (λ (x : PoolState). x.queue) is.pool) done stands
back_goes mine place (Some t) ended reading s back r free is done stands = by s.pending refl is
  where
    of : IsOfPending s.pending t.number
    of = kept_pending s.pending t free

    by : (o : Option Pending) → s.pending ≡ o → IsSomeAnd o (λ p. IsBackWith s p reading back) → GoesWith mine s place (event.Reopen Schedd (Some t) ended reading) back r
    by None at is = absurd is
    by (Some p) at is =
        let new = is.pool some_reads.0 some_reads.1 in
        logs mine s back t.number r of (ap (λ (x : PoolState). x.pending) new) (ap (λ (x : PoolState). x.next_tx) new)
        (done_to s back t.number p is.queue of at is.done (ap (λ (x : PoolState). x.queue) new)) done stands

mail_goes : (mine : List Entry) (place : ℕ) (who : Daemon) (boot index : ℕ) (m : Mail) (reading : ℕ) (judged : _) (mismatch : _) (s new : PoolState) (r : Stepped) → Some who ≡ Some Schedd → receive_refusal who boot index s ≡ None
    → Receives who index m reading judged (counts_brought (event.Receive who boot index reading judged mismatch) s) new r → LogStands (log_of mine) s.pending s.next_tx → GoesWith mine s place (event.Receive who boot index reading judged mismatch) new r
mail_goes mine place Schedd boot index m reading judged mismatch s new r own free h stands =
    plans mine s new _ r (idle_receiver boot index s free) (ap (λ (x : PoolState). x.pending) h.pool) (ap (λ (x : PoolState). x.next_tx) h.pool) (ap (λ (x : PoolState). x.queue) h.pool) h.answer stands
mail_goes mine place (Startd machine) boot index m reading judged mismatch s new r own free h stands = absurd (let clash : Some (Startd machine) ≡ Some Schedd = own in cc)
mail_goes mine place Matchmaker boot index m reading judged mismatch s new r own free h stands = absurd (let clash : Some Matchmaker ≡ Some Schedd = own in cc)

tick_goes : (mine : List Entry) (place : ℕ) (who : Daemon) (boot reading : ℕ) (s new : PoolState) (r : Stepped) → Some who ≡ Some Schedd → None ≡ tick_refusal who boot reading s
    → Ticks who reading (counts_brought (event.Tick who boot reading) s) new r → LogStands (log_of mine) s.pending s.next_tx → GoesWith mine s place (event.Tick who boot reading) new r
tick_goes mine place Schedd boot reading s new r own free h stands =
    plans mine s new h.step.plan r (idle_schedd boot s (none_head (schedd_refusal boot s) (unless_due (is_due s.schedd s.queue reading) ∷ []) (sym free))) (ap (λ (x : PoolState). x.pending) h.pool) (ap (λ (x : PoolState). x.next_tx) h.pool) (ap (λ (x : PoolState). x.queue) h.pool) h.answer stands
tick_goes mine place (Startd machine) boot reading s new r own free h stands = absurd (let clash : Some (Startd machine) ≡ Some Schedd = own in cc)
tick_goes mine place Matchmaker boot reading s new r own free h stands = absurd (let clash : Some Matchmaker ≡ Some Schedd = own in cc)

-- the daemon is up then, and all else stays
booted_goes : (mine : List Entry) (place : ℕ) (e : Event) (s back : PoolState) (r : Stepped) (boot : ℕ) (who : Daemon) → GoesWith mine s place e back r → GoesWith mine s place e (boots boot who back) r
booted_goes mine place e s back r boot who go = record { goes = go.goes; fits = go.fits; queue = go.queue }

reopen_goes : (mine : List Entry) (place : ℕ) (who : Daemon) (kept : Option (ReceiptValue (List Operation))) (ended : _) (reading : ℕ) (s back : PoolState) (r : Stepped) → Some who ≡ Some Schedd → IsReturnRefusal who kept ended s None
    → ComesBack who (is_some kept) reading (counts_brought (event.Reopen who kept ended reading) s) back r → LogStands (log_of mine) s.pending s.next_tx → GoesWith mine s place (event.Reopen who kept ended reading) back r
reopen_goes mine place Schedd kept ended reading s back r own free h stands =
    let go = back_goes mine place kept ended reading (counts_brought (event.Reopen Schedd kept ended reading) s) back r free h.0 h.1 stands in record { goes = go.goes; fits = go.fits; queue = go.queue }
reopen_goes mine place (Startd machine) kept ended reading s back r own free h stands = absurd (let clash : Some (Startd machine) ≡ Some Schedd = own in cc)
reopen_goes mine place Matchmaker kept ended reading s back r own free h stands = absurd (let clash : Some Matchmaker ≡ Some Schedd = own in cc)

pub own_log : (mine : List Entry) (place : ℕ) (e : Event) (s new : PoolState) (r : Stepped) → IsOwn (Some Schedd) e → IsEventRefusal e s None → Happens e (counts_brought e s) new r → LogStands (log_of mine) s.pending s.next_tx
    → GoesWith mine s place e new r
unfolding Happens
own_log mine place (event.Submit boot jobs reading) s new r own free h stands = absurd own
own_log mine place (event.Order v job reading) s new r own free h stands = absurd (none-some _ own)
own_log mine place (event.Receive who boot index reading judged mismatch) s new r own free h stands = by (slice_get s.mails.sent index) h
  where
    by : (o : Option Sent) → IsSomeAnd o (λ sent. Receives who index sent.mail reading judged (counts_brought (event.Receive who boot index reading judged mismatch) s) new r) → GoesWith mine s place (event.Receive who boot index reading judged mismatch) new r
    by None h = absurd h
    by (Some sent) h = mail_goes mine place who boot index sent.mail reading judged mismatch s new r own (none_first (receive_refusal who boot index s) (IsAdRefusal (slice_get s.mails.sent index) s reading judged mismatch) free) h stands
own_log mine place (event.Tick who boot reading) s new r own free h stands = tick_goes mine place who boot reading s new r own free h stands
own_log mine place (event.Check boot job reading) s new r own free h stands =
    plans mine s new _ r (idle_schedd boot s (none_head (schedd_refusal boot s) (unless_due (is_check_due s.schedd s.queue job reading) ∷ []) (sym free))) (ap (λ (x : PoolState). x.pending) h.pool) (ap (λ (x : PoolState). x.next_tx) h.pool) (ap (λ (x : PoolState). x.queue) h.pool) h.answer stands
own_log mine place (event.Logged boot receipt) s new r own free h stands = by s.pending refl h
  where
    e : Event
    e = event.Logged boot receipt

    of : IsOfPending s.pending receipt.number
    of = of_pending s.pending receipt (none_then (daemon_refusal Schedd boot s.daemons) (IsReceiptRefusal s.pending receipt) free)

    by : (o : Option Pending) → s.pending ≡ o → IsSomeAnd o (λ p. IsLogged (counts_brought e s) p new r) → GoesWith mine s place e new r
    by None at h = absurd h
    by (Some p) at h =
        let is = h.pool some_reads.0 some_reads.1 in
        let its = unfinished_logged h.queue (leaver_of some_reads.0 s.queue p.what) p.what (counts_brought e s) in
        logs mine s new receipt.number r of (ap (λ (x : PoolState). x.pending) is ∙ its.pending) (ap (λ (x : PoolState). x.next_tx) is ∙ its.next)
        (done_to s new receipt.number p h.queue of at h.done (ap (λ (x : PoolState). x.queue) is ∙ its.queue)) h.answer stands
own_log mine place (event.Ended machine boot receipt reading) s new r own free h stands = absurd (let clash : Some (Startd machine) ≡ Some Schedd = own in cc)
own_log mine place (event.Crash who) s new r own free h stands = by who own h
  where
    by : (who : Daemon) → Some who ≡ Some Schedd → (new ≡ crashes who (counts_brought (event.Crash who) s)) × IsDone r → GoesWith mine s place (event.Crash who) new r
    by Schedd own h = goes_done mine s new (log_of mine) r h.1 (subst (λ (x : PoolState). LogGoesOn (log_of mine) (log_of mine) x.pending s.next_tx x.next_tx) (sym h.0) (same_goes (log_of mine) s.pending s.next_tx stands))
        (queue_stays (log_of mine) (log_of mine) s.queue new.queue refl (ap (λ (x : PoolState). x.queue) h.0))
    by (Startd machine) own h = absurd (let clash : Some (Startd machine) ≡ Some Schedd = own in cc)
    by Matchmaker own h = absurd (let clash : Some Matchmaker ≡ Some Schedd = own in cc)
own_log mine place (event.Reopen who kept ended reading) s new r own free h stands =
    let e : Event = event.Reopen who kept ended reading in
    let go = reopen_goes mine place who kept ended reading s h.back r own (none_then (reopen_refusal who s.daemons) (IsReturnRefusal who kept ended s) free) h.comes stands in
    subst (λ (x : PoolState). GoesWith mine s place e x r) (sym h.pool) (booted_goes mine place e s h.back r (boot_of (daemon_state who s.daemons) + 1) who go)
own_log mine place (event.Matches list judged reading) s new r own free h stands = absurd (let clash : Some Matchmaker ≡ Some Schedd = own in cc)
own_log mine place (event.Close count reading mismatch) s new r own free h stands = absurd (none-some _ own)

-- No cause of a refusal is Bytes.
use Rattle.std.proofs.Common.{◌≡◌, ℕ, Bool, true, false, List, [], ◌∷◌, Option, Some, None, length, position, slice_get, nat_lt, ◌==◌, if◌then◌else◌, is_some, sym, ◌∙◌}
use Rattle.ad_eval.specs.Judgement.{Judgement, Mismatch}
use Rattle.ad_tree.specs.Ad.{Attributes}
use Rattle.claim_id.specs.declared.numbers.JobId.{JobId}
use Rattle.claim_id.specs.declared.numbers.RunNo.{RunNo}
use Rattle.claim_id.specs.declared.numbers.SlotId.{SlotId}
use Rattle.pool_parts.specs.declared.event.Event.{Event}
use Rattle.pool_parts.specs.declared.event.Event.TheVariants as event
use Rattle.pool_shown.specs.Slots.{first_claimed, first_left, has_run}
use Rattle.pool_mail.specs.declared.end.Ending.{Ending}
use Rattle.pool_mail.specs.declared.mail.Mail.{Mail}
use Rattle.pool_outer.specs.declared.gate.Daemon.{Daemon}
use Rattle.pool_outer.specs.declared.gate.Daemon.TheVariants.{Schedd, Startd, Matchmaker}
use Rattle.pool_parts.specs.declared.pending.Pending.{Pending}
use Rattle.pool_parts.specs.Receipts.{IsItemRefusal, IsKeptRefusal, IsReceiptRefusal, still_pending}
use Rattle.pool_rules.specs.Judging.{IsSomeLive, judged_in, nothing_given}
use Rattle.pool_rules.specs.Refusals.{IsAdRefusal, IsAdRefusalBy, IsEventRefusal, IsIdleRefusal, IsNone, IsRefusal, IsReturnRefusal, IsUnquietRefusal, Refusal, Then, Unless, busy_refusal, check_refusal, claim_left, closed_refusal, down_left, ended_refusal, events_refusal, first_of, first_slot, is_over, jobs_refusal, matchmaker_refusal, moved, not_quiet, order_left, order_refusal, pending_left, receive_refusal, run_left, run_refusal, schedd_refusal, stray_refusal, submit_refusal, tick_refusal, under_left, unless_due, unquiet_refusal}
use Rattle.pool_rules.specs.declared.refusal.TheConstants.{MAX_EVENTS}
use Rattle.pool_state.specs.declared.state.PoolState.{PoolState}
use Rattle.pool_state.specs.Readings.{is_startd_due}
use Rattle.pool_tables.specs.DaemonTables.{boot_refusal, crash_refusal, crash_refusal_at, daemon_refusal, first_down, reopen_refusal, reopen_refusal_at, same_daemon, daemon_state, state_refusal}
use Rattle.pool_tables.specs.MailLists.{MailsValue, again, mail_refusal, may_receive, sent_refusal}
use Rattle.pool_tables.specs.OrderTables.{is_due_for, is_open}
use Rattle.pool_tables.specs.declared.refusal.StepError.{StepError}
use Rattle.pool_tables.specs.declared.refusal.StepError.TheVariants as error
use Rattle.pool_tables.specs.declared.refusal.Unquiet.{Unquiet}
use Rattle.pool_tables.specs.declared.sent.Sent.{Sent}
use Rattle.pool_tables.specs.declared.states.DaemonState.{DaemonState}
use Rattle.queue_tx.specs.Operations.{Operation}
use Rattle.receipt_roll.specs.Values.{ReceiptValue}
use Rattle.schedd_state.specs.DueChecks.{is_check_due}
use Rattle.schedd_state.specs.DueLines.{is_due}

abbrev pub IsOther : Refusal → Type 0
IsOther r = r ≡ Some error.Bytes → ⊥

abbrev pub AreOthers : List Refusal → Type 0
AreOthers [] = Unit {0}
AreOthers (r ∷ rs) = IsOther r × AreOthers rs

-- ---- in general
none_other : IsOther None
none_other = λ b. cc

same_other : (x r : Refusal) → IsOther x → r ≡ x → IsOther r
same_other x r other same = λ b. other (sym same ∙ b)

first_other : (rs : List Refusal) → AreOthers rs → IsOther (first_of rs)
first_other [] h = none_other
first_other (None ∷ rs) h = first_other rs h.1
first_other (Some e ∷ rs) h = h.0

if_other : (b : Bool) (e : StepError) → IsOther (Some e) → IsOther (if b then None else Some e)
if_other true e h = none_other
if_other false e h = h

if_not_other : (b : Bool) (e : StepError) → IsOther (Some e) → IsOther (if b then Some e else None)
if_not_other true e h = h
if_not_other false e h = none_other

then_other : (x : Refusal) (P : Refusal → Type 0) (r : Refusal) → IsOther x → (P r → IsOther r) → Then x P r → IsOther r
then_other None P r first next h = next h
then_other (Some e) P r first next h = same_other (Some e) r first h

unless_other : {Holds : Type 0} {e : StepError} {P : Refusal → Type 0} {r : Refusal} → IsOther (Some e) → (P r → IsOther r) → Unless Holds e P r → IsOther r
unless_other first next u = λ b. first (sym (u.fails (λ holds. next (u.holds holds) b)) ∙ b)

-- ---- of daemons
state_by : (who : Daemon) (boot : ℕ) (s : DaemonState) (up : Bool) → IsOther (if up then boot_refusal boot s.boot else Some (error.Down who))
state_by who boot s true = if_other (boot == s.boot) (error.OldBoot boot s.boot) (λ b. cc)
state_by who boot s false = λ b. cc

state_other : (who : Daemon) (boot : ℕ) (o : Option DaemonState) → IsOther (state_refusal who boot o)
state_other who boot None = λ b. cc
state_other who boot (Some s) = state_by who boot s s.up

crash_by : (who : Daemon) (last up : Bool) → IsOther (if up then (if last then Some error.NotDue else None) else Some (error.Down who))
crash_by who last true = if_not_other last error.NotDue (λ b. cc)
crash_by who last false = λ b. cc

crash_other : (who : Daemon) (o : Option DaemonState) → IsOther (crash_refusal_at who o)
crash_other who None = λ b. cc
crash_other who (Some s) = crash_by who (s.crashes == 0) s.up

reopen_other : (who : Daemon) (o : Option DaemonState) → IsOther (reopen_refusal_at who o)
reopen_other who None = λ b. cc
reopen_other who (Some s) = if_not_other s.up (error.Up who) (λ b. cc)

-- ---- of mails
sent_by : (index : ℕ) (s : Sent) (may yours : Bool) → IsOther (if yours then again index may else Some (error.NotYours index s.to))
sent_by index s may true = if_other may (error.Again index) (λ b. cc)
sent_by index s may false = λ b. cc

sent_other : (who : Daemon) (index : ℕ) (m : MailsValue) (o : Option Sent) → IsOther (sent_refusal who index m o)
sent_other who index m None = λ b. cc
sent_other who index m (Some s) = sent_by index s (may_receive index m) (same_daemon who s.to)

ad_by : (x : Option (Attributes × SlotId)) (s : PoolState) (m : Mail) (t : ℕ) (j : Option Judgement) (n : Option Mismatch) (r : Refusal) → IsAdRefusalBy x s m t j n r → IsOther r
ad_by None s m t j n r h = same_other (stray_refusal (nothing_given j n)) r (if_other (nothing_given j n) (error.AdMoved first_slot) (λ b. cc)) h
ad_by (Some x) s m t j n r h = unless_other (λ b. cc) (λ none. same_other None r none_other none) h

ad_other : (o : Option Sent) (s : PoolState) (t : ℕ) (j : Option Judgement) (n : Option Mismatch) (r : Refusal) → IsAdRefusal o s t j n r → IsOther r
ad_other None s t j n r h = same_other None r none_other h
ad_other (Some sent) s t j n r h = ad_by (judged_in sent.mail) s sent.mail t j n r h

-- ---- of transactions
still_other : (o : Option Pending) → IsOther (still_pending o)
still_other None = none_other
still_other (Some p) = λ b. cc

item_other : {number : ℕ} {item tx : List Operation} {r : Refusal} → IsItemRefusal number item tx r → IsOther r
item_other i = λ b. let other = i.other (λ same. let none = i.same same in cc) in cc

receipt_other : (o : Option Pending) (t : ReceiptValue (List Operation)) (r : Refusal) → IsReceiptRefusal o t r → IsOther r
receipt_other None t r h = λ b. cc
receipt_other (Some p) t r h = λ b. let other = h.other (λ same. item_other (h.same same) b) in cc

kept_other : (o : Option Pending) (t : Option (ReceiptValue (List Operation))) (r : Refusal) → IsKeptRefusal o t r → IsOther r
kept_other o None r h = same_other None r none_other h
kept_other o (Some t) r h = receipt_other o t r h

-- ---- of the schedd and the startds
schedd_other : (boot : ℕ) (s : PoolState) → IsOther (schedd_refusal boot s)
schedd_other boot s =
    first_other (daemon_refusal Schedd boot s.daemons ∷ still_pending s.pending ∷ []) (state_other Schedd boot (daemon_state Schedd s.daemons), (still_other s.pending, tt))

due_other : (due : Bool) → IsOther (unless_due due)
due_other due = if_other due error.NotDue (λ b. cc)

busy_other : (who : Daemon) (s : PoolState) → IsOther (busy_refusal who s)
busy_other Schedd s = still_other s.pending
busy_other (Startd machine) s = none_other
busy_other Matchmaker s = none_other

tick_other : (who : Daemon) (boot t : ℕ) (s : PoolState) → IsOther (tick_refusal who boot t s)
tick_other Schedd boot t s =
    first_other (schedd_refusal boot s ∷ unless_due (is_due s.schedd s.queue t) ∷ []) (schedd_other boot s, (due_other (is_due s.schedd s.queue t), tt))
tick_other (Startd machine) boot t s =
    let due = is_startd_due (slice_get s.machines machine) t in
    first_other (daemon_refusal (Startd machine) boot s.daemons ∷ unless_due due ∷ []) (state_other (Startd machine) boot (daemon_state (Startd machine) s.daemons), (due_other due, tt))
tick_other Matchmaker boot t s =
    first_other (daemon_refusal Matchmaker boot s.daemons ∷ Some error.NotDue ∷ []) (state_other Matchmaker boot (daemon_state Matchmaker s.daemons), ((λ b. cc), tt))

left_other : (o : Option RunNo) → IsOther (run_left o)
left_other None = none_other
left_other (Some run) = λ b. cc

return_other : (who : Daemon) (kept : Option (ReceiptValue (List Operation))) (ended : List (ReceiptValue Ending)) (s : PoolState) (r : Refusal) → IsReturnRefusal who kept ended s r → IsOther r
return_other Schedd kept ended s r h = kept_other s.pending kept r h
return_other (Startd machine) kept ended s r h = same_other (run_left (first_left machine ended s.machines)) r (left_other (first_left machine ended s.machines)) h
return_other Matchmaker kept ended s r h = same_other None r none_other h

received_other : (who : Daemon) (boot index : ℕ) (s : PoolState) → IsOther (receive_refusal who boot index s)
received_other who boot index s =
    first_other (daemon_refusal who boot s.daemons ∷ mail_refusal who index s.mails ∷ busy_refusal who s ∷ [])
    (state_other who boot (daemon_state who s.daemons), (sent_other who index s.mails (slice_get s.mails.sent index), (busy_other who s, tt)))

-- ---- of the end
quiet_other : (o : Option Unquiet) → IsOther (not_quiet o)
quiet_other None = none_other
quiet_other (Some what) = λ b. cc

unquiet_other : (under : Option JobId) (s : PoolState) → IsOther (unquiet_refusal under s)
unquiet_other under s =
    first_other
    (not_quiet (down_left (first_down s.daemons))
    ∷ not_quiet (claim_left (first_claimed s.machines))
    ∷ not_quiet (under_left under)
    ∷ not_quiet (pending_left s.pending)
    ∷ not_quiet (order_left (position (is_open s.mails.sent) s.orders))
    ∷ [])
    (quiet_other (down_left (first_down s.daemons)), (quiet_other (claim_left (first_claimed s.machines)), (quiet_other (under_left under), (quiet_other (pending_left s.pending), (quiet_other (order_left (position (is_open s.mails.sent) s.orders)), tt)))))

idle_other : (idle : List JobId) (length t : ℕ) (n : Mismatch) (s : PoolState) (r : Refusal) → IsIdleRefusal idle length t n s r → IsOther r
idle_other idle length t n s r h =
    unless_other (λ b. cc) (λ next. then_other (moved length s.events) (IsUnquietRefusal s) r (if_other (length == s.events) (error.Moved length s.events) (λ b. cc)) (λ u. same_other (unquiet_refusal u.0 s) r (unquiet_other u.0 s) u.2) next) h

-- ---- each event
event_other : (e : Event) (s : PoolState) (r : Refusal) → IsEventRefusal e s r → IsOther r
event_other (event.Submit boot jobs reading) s r h =
    same_other (submit_refusal boot (length jobs) s) r
    (first_other (schedd_refusal boot s ∷ jobs_refusal s.counts.jobs (length jobs) ∷ []) (schedd_other boot s, (if_not_other (is_over s.counts.jobs (length jobs)) error.Jobs (λ b. cc), tt)))
    h
event_other (event.Order v job reading) s r h = same_other (order_refusal v job reading s) r (due_other (is_some (position (is_due_for v job reading) s.orders))) h
event_other (event.Receive who boot index reading judged mismatch) s r h =
    then_other (receive_refusal who boot index s) (IsAdRefusal (slice_get s.mails.sent index) s reading judged mismatch) r (received_other who boot index s) (ad_other (slice_get s.mails.sent index) s reading judged mismatch r) h
event_other (event.Tick who boot reading) s r h = same_other (tick_refusal who boot reading s) r (tick_other who boot reading s) h
event_other (event.Check boot job reading) s r h =
    same_other (check_refusal boot job reading s) r
    (first_other (schedd_refusal boot s ∷ unless_due (is_check_due s.schedd s.queue job reading) ∷ []) (schedd_other boot s, (due_other (is_check_due s.schedd s.queue job reading), tt)))
    h
event_other (event.Logged boot receipt) s r h =
    then_other (daemon_refusal Schedd boot s.daemons) (IsReceiptRefusal s.pending receipt) r (state_other Schedd boot (daemon_state Schedd s.daemons)) (receipt_other s.pending receipt r) h
event_other (event.Ended machine boot receipt reading) s r h =
    let run = receipt.item.run in
    same_other (ended_refusal machine boot run s) r
    (first_other (daemon_refusal (Startd machine) boot s.daemons ∷ run_refusal (has_run machine run s.machines) run ∷ [])
    (state_other (Startd machine) boot (daemon_state (Startd machine) s.daemons), (if_other (has_run machine run s.machines) (error.NoRun run) (λ b. cc), tt)))
    h
event_other (event.Crash who) s r h = same_other (crash_refusal who s.daemons) r (crash_other who (daemon_state who s.daemons)) h
event_other (event.Reopen who kept ended reading) s r h =
    then_other (reopen_refusal who s.daemons) (IsReturnRefusal who kept ended s) r (reopen_other who (daemon_state who s.daemons)) (return_other who kept ended s r) h
event_other (event.Matches list judged reading) s r h =
    then_other (matchmaker_refusal s) (Unless (IsSomeLive s list judged reading) error.NotDue IsNone) r (if_other s.daemons.matchmaker.up (error.Down Matchmaker) (λ b. cc)) (λ u. unless_other (λ b. cc) (λ none. same_other None r none_other none) u) h
event_other (event.Close length reading mismatch) s r h = idle_other h.0 length reading mismatch s r h.2

pub refusal_other : (e : Event) (s : PoolState) (r : Refusal) → IsRefusal e s r → r ≡ Some error.Bytes → ⊥
refusal_other e s r h =
    then_other (first_of (closed_refusal s ∷ events_refusal s ∷ [])) (IsEventRefusal e s) r
    (first_other (closed_refusal s ∷ events_refusal s ∷ []) (if_not_other s.closed error.Closed (λ b. cc), (if_other (nat_lt s.events MAX_EVENTS) error.Events (λ b. cc), tt))) (event_other e s r) h

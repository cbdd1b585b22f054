-- Why an event isn't accepted: the first cause that holds.
use Rattle.std.specs.Prelude.{◌≡◌, ℕ, ◌+◌, ◌==◌, Bool, List, [], ◌∷◌, length, position, slice_get, nat_lt, Option, Some, None, is_some, if◌then◌else◌}
use Rattle.ad_eval.specs.Judgement.{Judgement, Mismatch}
use Rattle.ad_tree.specs.Ad.{Attributes}
use Rattle.claim_id.specs.declared.numbers.JobId.{JobId}
use Rattle.claim_id.specs.declared.numbers.RunNo.{RunNo}
use Rattle.claim_id.specs.declared.numbers.SlotId.{SlotId}
use Rattle.claim_id.specs.declared.order.Verb.{Verb}
use Rattle.pool_parts.specs.declared.event.Event.{Event}
use Rattle.pool_parts.specs.declared.event.Event.TheVariants as event
use Rattle.pool_parts.specs.Listings.{AreJobs, NextJob}
use Rattle.pool_shown.specs.Slots.{first_claimed, first_left, has_run}
use Rattle.pool_mail.specs.declared.end.Ending.{Ending}
use Rattle.pool_mail.specs.declared.mail.Mail.{Mail}
use Rattle.pool_mail.specs.declared.matching.Match.{Match}
use Rattle.pool_outer.specs.declared.gate.Daemon.{Daemon}
use Rattle.pool_outer.specs.declared.gate.Daemon.TheVariants.{Schedd, Startd, Matchmaker}
use Rattle.pool_parts.specs.declared.pending.Pending.{Pending}
use Rattle.pool_parts.specs.Receipts.{IsKeptRefusal, IsReceiptRefusal, still_pending}
use Rattle.pool_rules.specs.declared.refusal.TheConstants.{MAX_EVENTS}
use Rattle.pool_rules.specs.Judging.{IsFairOf, IsOfAll, IsSomeLive, judged_in, nothing_given}
use Rattle.pool_state.specs.declared.opening.TheConstants.{MAX_JOBS}
use Rattle.pool_state.specs.declared.state.PoolState.{PoolState}
use Rattle.pool_state.specs.Readings.{is_startd_due}
use Rattle.pool_tables.specs.DaemonTables.{crash_refusal, daemon_refusal, first_down, reopen_refusal}
use Rattle.pool_tables.specs.MailLists.{mail_refusal}
use Rattle.pool_tables.specs.OrderTables.{is_due_for, is_open}
use Rattle.pool_tables.specs.declared.refusal.StepError.{StepError}
use Rattle.pool_tables.specs.declared.refusal.StepError.TheVariants as error
use Rattle.pool_tables.specs.declared.refusal.Unquiet.{Unquiet}
use Rattle.pool_tables.specs.declared.refusal.Unquiet.TheVariants as left
use Rattle.pool_tables.specs.declared.sent.Sent.{Sent}
use Rattle.queue_tx.specs.declared.kind.JobKind.TheVariants.{Idle, Under}
use Rattle.queue_tx.specs.Operations.{Operation}
use Rattle.receipt_roll.specs.Values.{ReceiptValue}
use Rattle.schedd_state.specs.DueChecks.{is_check_due}
use Rattle.schedd_state.specs.DueLines.{is_due}

abbrev pub Refusal : Type 0
Refusal = Option StepError

-- the first of some causes, in order
abbrev pub first_of : List Refusal → Refusal
first_of [] = None
first_of (None ∷ rs) = first_of rs
first_of (Some e ∷ rs) = Some e

-- the cause, or where there is none what comes then
abbrev pub Then : Refusal → (Refusal → Type 0) → Refusal → Type 0
Then None Next r = Next r
Then (Some e) Next r = r ≡ Some e

-- refused so unless it holds, and where it does what comes then
pub record Unless (Holds : Type 0) (e : StepError) (Next : Refusal → Type 0) (r : Refusal)
    : Type 0 where
  pub fails : ¬ Holds → r ≡ Some e
  pub holds : Holds → Next r

abbrev pub IsNone : Refusal → Type 0
IsNone r = r ≡ None

abbrev pub unless_due : Bool → Refusal
unless_due due = if due then None else Some error.NotDue

-- ---- of the schedd
abbrev pub is_over : ℕ → ℕ → Bool
is_over jobs count = nat_lt MAX_JOBS (jobs + count)

abbrev pub jobs_refusal : ℕ → ℕ → Refusal
jobs_refusal jobs count = if is_over jobs count then Some error.Jobs else None

-- a schedd that is down or was booted since, or one with an unfinished transaction
abbrev pub schedd_refusal : ℕ → PoolState → Refusal
schedd_refusal boot s =
    first_of (daemon_refusal Schedd boot s.daemons ∷ still_pending s.pending ∷ [])

abbrev pub submit_refusal : ℕ → ℕ → PoolState → Refusal
submit_refusal boot count s =
    first_of (schedd_refusal boot s ∷ jobs_refusal s.counts.jobs count ∷ [])

abbrev pub check_refusal : ℕ → JobId → ℕ → PoolState → Refusal
check_refusal boot job reading s = first_of
    (schedd_refusal boot s ∷ unless_due (is_check_due s.schedd s.queue job reading) ∷ [])

abbrev pub IsLoggedRefusal : ℕ → ReceiptValue (List Operation) → PoolState → Refusal → Type 0
IsLoggedRefusal boot receipt s r =
    Then (daemon_refusal Schedd boot s.daemons) (IsReceiptRefusal s.pending receipt) r

-- ---- of any daemon
-- nothing is ever due of the matchmaker
abbrev pub tick_refusal : Daemon → ℕ → ℕ → PoolState → Refusal
tick_refusal Schedd boot reading s =
    first_of (schedd_refusal boot s ∷ unless_due (is_due s.schedd s.queue reading) ∷ [])
tick_refusal (Startd machine) boot reading s = first_of
    (daemon_refusal (Startd machine) boot s.daemons
    ∷ unless_due (is_startd_due (slice_get s.machines machine) reading) ∷ [])
tick_refusal Matchmaker boot reading s =
    first_of (daemon_refusal Matchmaker boot s.daemons ∷ Some error.NotDue ∷ [])

abbrev pub run_refusal : Bool → RunNo → Refusal
run_refusal has run = if has then None else Some (error.NoRun run)

abbrev pub ended_refusal : ℕ → ℕ → RunNo → PoolState → Refusal
ended_refusal machine boot run s = first_of
    (daemon_refusal (Startd machine) boot s.daemons
    ∷ run_refusal (has_run machine run s.machines) run ∷ [])

abbrev pub run_left : Option RunNo → Refusal
run_left None = None
run_left (Some run) = Some (error.RunLeft run)

-- the schedd with its unfinished transaction, a startd without the ends of all that ran there
abbrev pub IsReturnRefusal : Daemon → Option (ReceiptValue (List Operation))
    → List (ReceiptValue Ending) → PoolState → Refusal → Type 0
IsReturnRefusal Schedd kept ended s r = IsKeptRefusal s.pending kept r
IsReturnRefusal (Startd machine) kept ended s r = r ≡ run_left (first_left machine ended s.machines)
IsReturnRefusal Matchmaker kept ended s r = IsNone r

abbrev pub IsReopenRefusal : Daemon → Option (ReceiptValue (List Operation))
    → List (ReceiptValue Ending) → PoolState → Refusal → Type 0
IsReopenRefusal who kept ended s r =
    Then (reopen_refusal who s.daemons) (IsReturnRefusal who kept ended s) r

-- ---- of a mail
-- the schedd receives nothing while a transaction is unfinished
abbrev pub busy_refusal : Daemon → PoolState → Refusal
busy_refusal Schedd s = still_pending s.pending
busy_refusal (Startd machine) s = None
busy_refusal Matchmaker s = None

abbrev pub first_slot : SlotId
first_slot = record { machine = 0; slot = 1 }

abbrev pub stray_refusal : Bool → Refusal
stray_refusal nothing = if nothing then None else Some (error.AdMoved first_slot)

-- with a mail whose ad isn't judged nothing is given
abbrev pub IsAdRefusalBy : Option (Attributes × SlotId) → PoolState → Mail → ℕ
    → Option Judgement → Option Mismatch → Refusal → Type 0
IsAdRefusalBy None s m reading judged mismatch r =
    r ≡ stray_refusal (nothing_given judged mismatch)
IsAdRefusalBy (Some x) s m reading judged mismatch r =
    Unless (IsFairOf s m x.0 x.1 reading judged mismatch) (error.AdMoved x.1) IsNone r

abbrev pub IsAdRefusal : Option Sent → PoolState → ℕ → Option Judgement → Option Mismatch
    → Refusal → Type 0
IsAdRefusal None s reading judged mismatch r = IsNone r
IsAdRefusal (Some sent) s reading judged mismatch r =
    IsAdRefusalBy (judged_in sent.mail) s sent.mail reading judged mismatch r

abbrev pub receive_refusal : Daemon → ℕ → ℕ → PoolState → Refusal
receive_refusal who boot index s = first_of
    (daemon_refusal who boot s.daemons ∷ mail_refusal who index s.mails ∷ busy_refusal who s ∷ [])

abbrev pub IsReceiveRefusal : Daemon → ℕ → ℕ → ℕ → Option Judgement → Option Mismatch
    → PoolState → Refusal → Type 0
IsReceiveRefusal who boot index reading judged mismatch s r =
    Then (receive_refusal who boot index s)
    (IsAdRefusal (slice_get s.mails.sent index) s reading judged mismatch) r

-- ---- of the master and the matchmaker
abbrev pub order_refusal : Verb → JobId → ℕ → PoolState → Refusal
order_refusal v job reading s =
    unless_due (is_some (position (is_due_for v job reading) s.orders))

abbrev pub matchmaker_refusal : PoolState → Refusal
matchmaker_refusal s = if s.daemons.matchmaker.up then None else Some (error.Down Matchmaker)

abbrev pub IsMatchesRefusal : List Match → List Judgement → ℕ → PoolState → Refusal → Type 0
IsMatchesRefusal list judged reading s r = Then (matchmaker_refusal s)
    (Unless (IsSomeLive s list judged reading) error.NotDue IsNone) r

abbrev pub moved : ℕ → ℕ → Refusal
moved asked length = if asked == length then None else Some (error.Moved asked length)

abbrev pub not_quiet : Option Unquiet → Refusal
not_quiet None = None
not_quiet (Some what) = Some (error.NotQuiet what)

abbrev pub down_left : Option Daemon → Option Unquiet
down_left None = None
down_left (Some who) = Some (left.Down who)

abbrev pub claim_left : Option SlotId → Option Unquiet
claim_left None = None
claim_left (Some slot) = Some (left.Claim slot)

abbrev pub under_left : Option JobId → Option Unquiet
under_left None = None
under_left (Some job) = Some (left.Under job)

abbrev pub pending_left : Option Pending → Option Unquiet
pending_left None = None
pending_left (Some p) = Some (left.Pending p.number)

abbrev pub order_left : Option ℕ → Option Unquiet
order_left None = None
order_left (Some place) = Some (left.Order place)

-- something is left to do: of it the first
abbrev pub unquiet_refusal : Option JobId → PoolState → Refusal
unquiet_refusal under s = first_of
    (not_quiet (down_left (first_down s.daemons))
    ∷ not_quiet (claim_left (first_claimed s.machines))
    ∷ not_quiet (under_left under)
    ∷ not_quiet (pending_left s.pending)
    ∷ not_quiet (order_left (position (is_open s.mails.sent) s.orders))
    ∷ [])

-- by the first job that is under a claim, if there is one
abbrev pub IsUnquietRefusal : PoolState → Refusal → Type 0
IsUnquietRefusal s r = (under : Option JobId) × NextJob Under s.queue None under
    × (r ≡ unquiet_refusal under s)

-- with a mismatch that isn't of these idle jobs, or after more events, or with something left to do
abbrev pub IsIdleRefusal : List JobId → ℕ → ℕ → Mismatch → PoolState → Refusal → Type 0
IsIdleRefusal idle length reading mismatch s r =
    Unless (IsOfAll s idle mismatch reading) (error.AdMoved first_slot)
    (Then (moved length s.events) (IsUnquietRefusal s)) r

-- by the idle jobs, in order
abbrev pub IsCloseRefusal : ℕ → ℕ → Mismatch → PoolState → Refusal → Type 0
IsCloseRefusal length reading mismatch s r = (idle : List JobId) × AreJobs Idle s.queue None idle
    × IsIdleRefusal idle length reading mismatch s r

-- ---- of each event
abbrev pub IsEventRefusal : Event → PoolState → Refusal → Type 0
IsEventRefusal (event.Submit boot jobs reading) s r = r ≡ submit_refusal boot (length jobs) s
IsEventRefusal (event.Order v job reading) s r = r ≡ order_refusal v job reading s
IsEventRefusal (event.Receive who boot index reading judged mismatch) s r =
    IsReceiveRefusal who boot index reading judged mismatch s r
IsEventRefusal (event.Tick who boot reading) s r = r ≡ tick_refusal who boot reading s
IsEventRefusal (event.Check boot job reading) s r = r ≡ check_refusal boot job reading s
IsEventRefusal (event.Logged boot receipt) s r = IsLoggedRefusal boot receipt s r
IsEventRefusal (event.Ended machine boot receipt reading) s r =
    r ≡ ended_refusal machine boot receipt.item.run s
IsEventRefusal (event.Crash who) s r = r ≡ crash_refusal who s.daemons
IsEventRefusal (event.Reopen who kept ended reading) s r = IsReopenRefusal who kept ended s r
IsEventRefusal (event.Matches list judged reading) s r = IsMatchesRefusal list judged reading s r
IsEventRefusal (event.Close length reading mismatch) s r =
    IsCloseRefusal length reading mismatch s r

abbrev pub closed_refusal : PoolState → Refusal
closed_refusal s = if s.closed then Some error.Closed else None

abbrev pub events_refusal : PoolState → Refusal
events_refusal s = if nat_lt s.events MAX_EVENTS then None else Some error.Events

-- the first cause for which an event isn't accepted, limits of bytes and memory aside
abbrev pub IsRefusal : Event → PoolState → Refusal → Type 0
IsRefusal e s r = Then (first_of (closed_refusal s ∷ events_refusal s ∷ [])) (IsEventRefusal e s) r

-- No event changes which the rolls of a pool are, and of which daemons it is.
use Rattle.std.proofs.Common.{◌≡◌, ℕ, zero, suc, ◌+◌, nat_lt, Bool, true, false, List, [], ◌∷◌, Option, Some, None, IsSomeAnd, slice_get, slice_set, length, position, is_some, refl, sym, ◌∙◌, subst, if◌then◌else◌}
use Rattle.claim_id.specs.declared.numbers.JobId.{JobId}
use Rattle.claim_id.specs.declared.order.Verb.{Verb}
use Rattle.pool_parts.specs.declared.answer.Stepped.{Stepped}
use Rattle.pool_parts.specs.declared.event.Event.{Event}
use Rattle.pool_parts.specs.declared.event.Event.TheVariants as event
use Rattle.pool_mail.specs.declared.mail.Mail.{Mail}
use Rattle.pool_rules.specs.Deeds.{startd_acts}
use Rattle.pool_rules.specs.Happens.{ComesBack, Happens, Reacts, Receives, Ticks, counts_brought}
use Rattle.pool_rules.specs.Logging.{IsBackWith, IsLogged, Leaver, ScheddIsBack, after_unfinished, leaver_of}
use Rattle.pool_rules.specs.Masters.{gives}
use Rattle.pool_rules.specs.Startds.{IsReceivedStep, IsStartdStep, StartdDoes, ends_after}
use Rattle.pool_outer.specs.declared.gate.Daemon.{Daemon}
use Rattle.pool_outer.specs.declared.gate.Daemon.TheVariants.{Schedd, Startd, Matchmaker}
use Rattle.pool_parts.specs.declared.pending.Pending.{Pending}
use Rattle.pool_parts.specs.declared.pending.Unfinished.{Unfinished}
use Rattle.pool_parts.specs.declared.pending.Unfinished.TheVariants.{Submission, Plan}
use Rattle.pool_state.specs.declared.state.PoolState.{PoolState}
use Rattle.pool_state.specs.Readings.{boot_of}
use Rattle.pool_tables.specs.declared.sent.Sent.{Sent}
use Rattle.pool_tables.specs.declared.states.DaemonState.{DaemonState}
use Rattle.pool_tables.specs.DaemonTables.{DaemonsValue, crashed, reopened, set_state, daemon_state, with_startd, with_state}
use Rattle.pool_tables.specs.OrderTables.{is_due_for}
use Rattle.queue_tx.specs.Queues.{KeyedAds}
use Rattle.startd_core.specs.Startds.{After, StartdValue, after_end, after_mail, after_reboot, after_tick}
use Rattle.pool_rules.proofs.Readers.{some_reads}

-- the pool has the same rolls, and the same daemons
pub record HasSameRolls (s new : PoolState) : Type 0 where
  pub log : new.log_mark ≡ s.log_mark
  pub ends : new.end_marks ≡ s.end_marks
  pub daemons : (who : Daemon) → is_some (daemon_state who new.daemons) ≡ is_some (daemon_state who s.daemons)

-- ---- the daemons, one of which stands anew
set_there : (xs : List DaemonState) (i place : ℕ) (x : DaemonState) → is_some (slice_get (slice_set xs i x) place) ≡ is_some (slice_get xs place)
set_there [] i place x = refl
set_there (y ∷ ys) zero zero x = refl
set_there (y ∷ ys) zero (suc place) x = refl
set_there (y ∷ ys) (suc i) zero x = refl
set_there (y ∷ ys) (suc i) (suc place) x = set_there ys i place x

startd_there : (xs : List DaemonState) (i place : ℕ) (x : DaemonState) → is_some (slice_get (with_startd i x xs) place) ≡ is_some (slice_get xs place)
startd_there xs i place x = by (nat_lt i (length xs))
  where
    by : (b : Bool) → is_some (slice_get (if b then slice_set xs i x else xs) place) ≡ is_some (slice_get xs place)
    by true = set_there xs i place x
    by false = refl

set_state_there : (who other : Daemon) (x : DaemonState) (d : DaemonsValue) → is_some (daemon_state other (set_state who x d)) ≡ is_some (daemon_state other d)
set_state_there Schedd Schedd x d = refl
set_state_there Schedd (Startd machine) x d = refl
set_state_there Schedd Matchmaker x d = refl
set_state_there (Startd machine) Schedd x d = refl
set_state_there (Startd machine) (Startd other) x d = startd_there d.startds machine other x
set_state_there (Startd machine) Matchmaker x d = refl
set_state_there Matchmaker Schedd x d = refl
set_state_there Matchmaker (Startd machine) x d = refl
set_state_there Matchmaker Matchmaker x d = refl

state_there : (who other : Daemon) (o : Option DaemonState) (d : DaemonsValue) → is_some (daemon_state other (with_state who o d)) ≡ is_some (daemon_state other d)
state_there who other None d = refl
state_there who other (Some x) d = set_state_there who other x d

-- ---- each event

pub by_pool : (s to new : PoolState) → HasSameRolls s to → new ≡ to → HasSameRolls s new
by_pool s to new same is = subst (HasSameRolls s) (sym is) same

gives_rolls : (place : Option ℕ) (v : Verb) (job : JobId) (s : PoolState) → HasSameRolls s (gives place v job s)
gives_rolls None v job s = record { log = refl; ends = refl; daemons = λ who. refl }
gives_rolls (Some place) v job s = record { log = refl; ends = refl; daemons = λ who. refl }

logged_rolls : (q : KeyedAds) (leaver : Leaver) (what : Unfinished) (s : PoolState) → HasSameRolls s (after_unfinished q leaver what s)
logged_rolls q leaver (Submission cluster count) s = record { log = refl; ends = refl; daemons = λ who. refl }
logged_rolls q leaver (Plan p) s = record { log = refl; ends = refl; daemons = λ who. refl }

does_rolls : (machine : ℕ) (f : StartdValue → After) (s new : PoolState) (r : Stepped) → StartdDoes machine f s new r → HasSameRolls s new
does_rolls machine f s new r does = by (slice_get s.machines machine) does
  where
    by : (o : Option StartdValue) → IsSomeAnd o (λ v. IsStartdStep machine (f v) [] s new r) → HasSameRolls s new
    by None does = absurd does
    by (Some v) does = by_pool s (startd_acts machine (f v).startd (f v).step [] s) new (record { log = refl; ends = refl; daemons = λ who. refl }) does.pool

mail_rolls : (who : Daemon) (index : ℕ) (m : Mail) (reading : ℕ) (judged : _) (s new : PoolState) (r : Stepped) → Receives who index m reading judged s new r → HasSameRolls s new
mail_rolls Schedd index m reading judged s new r h = by_pool s _ new (record { log = refl; ends = refl; daemons = λ who. refl }) h.pool
mail_rolls (Startd machine) index m reading judged s new r h = by (slice_get s.machines machine) h
  where
    by : (o : Option StartdValue) → IsSomeAnd o (λ v. IsReceivedStep machine index (after_mail v m judged reading) s new r) → HasSameRolls s new
    by None does = absurd does
    by (Some v) does = by_pool s _ new (record { log = refl; ends = refl; daemons = λ who. refl }) does.pool
mail_rolls Matchmaker index m reading judged s new r h = by_pool s _ new (record { log = refl; ends = refl; daemons = λ who. refl }) h.0

tick_rolls : (who : Daemon) (reading : ℕ) (s new : PoolState) (r : Stepped) → Ticks who reading s new r → HasSameRolls s new
tick_rolls Schedd reading s new r h = by_pool s _ new (record { log = refl; ends = refl; daemons = λ who. refl }) h.pool
tick_rolls (Startd machine) reading s new r h = does_rolls machine (λ v. after_tick v reading) s new r h
tick_rolls Matchmaker reading s new r h = by_pool s s new (record { log = refl; ends = refl; daemons = λ who. refl }) h.0

schedd_rolls : (kept : Bool) (reading : ℕ) (s new : PoolState) → ScheddIsBack s kept reading new → HasSameRolls s new
schedd_rolls false reading s new h = by_pool s _ new (record { log = refl; ends = refl; daemons = λ who. refl }) h.pool
schedd_rolls true reading s new h = by s.pending h
  where
    by : (o : Option Pending) → IsSomeAnd o (λ p. IsBackWith s p reading new) → HasSameRolls s new
    by None h = absurd h
    by (Some p) h = by_pool s _ new (record { log = refl; ends = refl; daemons = λ who. refl }) (h.pool some_reads.0 some_reads.1)

back_rolls : (who : Daemon) (kept : Bool) (reading : ℕ) (s new : PoolState) (r : Stepped) → ComesBack who kept reading s new r → HasSameRolls s new
back_rolls Schedd kept reading s new r h = schedd_rolls kept reading s new h.0
back_rolls (Startd machine) kept reading s new r h = does_rolls machine (λ v. after_reboot v reading) s new r h
back_rolls Matchmaker kept reading s new r h = by_pool s s new (record { log = refl; ends = refl; daemons = λ who. refl }) h.0

event_rolls : (e : Event) (s new : PoolState) (r : Stepped) → Happens e s new r → HasSameRolls s new
unfolding Happens
event_rolls (event.Submit boot jobs reading) s new r h = by_pool s _ new (record { log = refl; ends = refl; daemons = λ who. refl }) h.pool
event_rolls (event.Order v job reading) s new r h = by_pool s _ new (gives_rolls (position (is_due_for v job reading) s.orders) v job s) h.0
event_rolls (event.Receive who boot index reading judged mismatch) s new r h = by (slice_get s.mails.sent index) h
  where
    by : (o : Option Sent) → IsSomeAnd o (λ sent. Receives who index sent.mail reading judged s new r) → HasSameRolls s new
    by None h = absurd h
    by (Some sent) h = mail_rolls who index sent.mail reading judged s new r h
event_rolls (event.Tick who boot reading) s new r h = tick_rolls who reading s new r h
event_rolls (event.Check boot job reading) s new r h = by_pool s _ new (record { log = refl; ends = refl; daemons = λ who. refl }) h.pool
event_rolls (event.Logged boot receipt) s new r h = by s.pending h
  where
    by : (o : Option Pending) → IsSomeAnd o (λ p. IsLogged s p new r) → HasSameRolls s new
    by None h = absurd h
    by (Some p) h = by_pool s _ new (logged_rolls h.queue (leaver_of some_reads.0 s.queue p.what) p.what s) (h.pool some_reads.0 some_reads.1)
event_rolls (event.Ended machine boot receipt reading) s new r h = by (slice_get s.machines machine) h
  where
    f : StartdValue → After
    f v = after_end v receipt.item reading

    by : (o : Option StartdValue) → IsSomeAnd o (λ v. IsStartdStep machine (f v) (ends_after receipt.item.run v (f v)) s new r) → HasSameRolls s new
    by None h = absurd h
    by (Some v) h = by_pool s _ new (record { log = refl; ends = refl; daemons = λ who. refl }) h.pool
event_rolls (event.Crash who) s new r h = by_pool s _ new (record { log = refl; ends = refl; daemons = λ other. state_there who other (crashed (daemon_state who s.daemons)) s.daemons }) h.0
event_rolls (event.Reopen who kept ended reading) s new r h =
    let back = back_rolls who (is_some kept) reading s h.back r h.comes in
    by_pool s _ new (record { log = back.log; ends = back.ends; daemons = λ other. state_there who other (reopened (boot_of (daemon_state who s.daemons) + 1) (daemon_state who h.back.daemons)) h.back.daemons ∙ back.daemons other }) h.pool
event_rolls (event.Matches list judged reading) s new r h = by_pool s _ new (record { log = refl; ends = refl; daemons = λ who. refl }) h.pool
event_rolls (event.Close count reading mismatch) s new r h = by_pool s _ new (record { log = refl; ends = refl; daemons = λ who. refl }) h.0

pub rolls_same : (s new : PoolState) (e : Event) (r : Stepped) → Reacts s e r new → HasSameRolls s new
rolls_same s new e r h =
    let same = event_rolls e (counts_brought e s) h.then_pool r h.happens in
    by_pool s _ new (record { log = same.log; ends = same.ends; daemons = same.daemons }) h.pool

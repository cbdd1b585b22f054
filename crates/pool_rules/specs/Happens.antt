-- What an accepted event makes of a pool, and what is answered.
use Rattle.std.specs.Prelude.{◌≡◌, ◌⊎◌, ℕ, ◌+◌, max, true, List, [], ◌∷◌, length, position, slice_get, Bool, false, Option, Some, None, is_some, IsSomeAnd}
use Rattle.ad_eval.specs.Judgement.{Judgement}
use Rattle.ad_tree.specs.Ad.{Attributes}
use Rattle.pool_parts.specs.declared.answer.Answer.TheVariants as answer
use Rattle.pool_parts.specs.declared.answer.Stepped.{Stepped}
use Rattle.pool_parts.specs.declared.event.Event.{Event}
use Rattle.pool_parts.specs.declared.event.Event.TheVariants as event
use Rattle.pool_parts.specs.Events.{reading_of}
use Rattle.pool_parts.specs.Sizes.{event_count}
use Rattle.pool_mail.specs.declared.mail.Mail.{Mail}
use Rattle.pool_mail.specs.declared.mail.Mail.TheVariants as mail
use Rattle.pool_mail.specs.declared.matching.Match.{Match}
use Rattle.pool_outer.specs.declared.gate.Daemon.{Daemon}
use Rattle.pool_outer.specs.declared.gate.Daemon.TheVariants.{Schedd, Startd, Matchmaker}
use Rattle.pool_parts.specs.Clusters.{IsNextCluster}
use Rattle.pool_parts.specs.declared.pending.Pending.{Pending}
use Rattle.pool_parts.specs.declared.pending.Unfinished.TheVariants.{Submission}
use Rattle.pool_rules.specs.Judging.{IsLive}
use Rattle.pool_state.specs.declared.state.PoolState.{PoolState}
use Rattle.pool_state.specs.PoolJobs.{has_job}
use Rattle.pool_state.specs.Readings.{boot_of}
use Rattle.pool_parts.specs.Submissions.{submission_ops}
use Rattle.pool_tables.specs.DaemonTables.{crashed, reopened, daemon_state, with_state}
use Rattle.pool_tables.specs.OrderTables.{is_due_for}
use Rattle.queue_tx.specs.declared.key.Key.TheVariants.{Header}
use Rattle.queue_tx.specs.Queues.{ad_at}
use Rattle.startd_core.specs.Startds.{after_end, after_mail, after_reboot, after_tick}
use Rattle.pool_rules.specs.Answers.{answered, answer_with, pending_tx}
use Rattle.pool_rules.specs.Deeds.{receives}
use Rattle.pool_rules.specs.Logging.{IsLogged, ScheddIsBack}
use Rattle.pool_rules.specs.Masters.{gives, passes}
use Rattle.pool_rules.specs.Schedds.{ScheddLooks, ScheddReceives, ScheddTicks}
use Rattle.pool_rules.specs.Startds.{StartdDoes, StartdEnds, StartdReceives}

-- nothing is asked for
abbrev pub IsDone : Stepped → Type 0
IsDone r = r ≡ answered answer.Done

-- ---- jobs are submitted, as the next cluster
abbrev pub submission_of : ℕ → List Attributes → PoolState → Pending
submission_of cluster jobs s = pending_tx s.next_tx
    (submission_ops (is_some (ad_at Header s.queue)) cluster jobs)
    (Submission cluster (length jobs))

pub record IsSubmitted (s : PoolState) (jobs : List Attributes) (new : PoolState) (r : Stepped)
    : Type 0 where
  pub cluster : ℕ
  pub next : IsNextCluster s.queue s.finished cluster
  pub pool : new ≡ record s { pending = Some (submission_of cluster jobs s) }
  pub answer : r ≡ answered (answer_with (Some (submission_of cluster jobs s)))

-- ---- mails
-- the pool has or had the job that the mail orders to be removed
abbrev pub is_known : Mail → PoolState → Bool
is_known (mail.Remove job) s = has_job job s
is_known m s = false

abbrev pub Receives : Daemon → ℕ → Mail → ℕ → Option Judgement → PoolState → PoolState → Stepped
    → Type 0
Receives Schedd index m reading judged s new r =
    ScheddReceives s index m (is_known m s) reading new r
Receives (Startd machine) index m reading judged s new r =
    StartdReceives machine index (λ v. after_mail v m judged reading) s new r
Receives Matchmaker index m reading judged s new r = (new ≡ receives index s) × IsDone r

-- ---- time
abbrev pub Ticks : Daemon → ℕ → PoolState → PoolState → Stepped → Type 0
Ticks Schedd reading s new r = ScheddTicks s reading new r
Ticks (Startd machine) reading s new r =
    StartdDoes machine (λ v. after_tick v reading) s new r
Ticks Matchmaker reading s new r = (new ≡ s) × IsDone r

-- ---- crashes
abbrev pub crashes : Daemon → PoolState → PoolState
crashes who s =
    record s { daemons = with_state who (crashed (daemon_state who s.daemons)) s.daemons }

-- the daemon is up, in that boot
abbrev pub boots : ℕ → Daemon → PoolState → PoolState
boots boot who s = record s {
  daemons = with_state who (reopened boot (daemon_state who s.daemons)) s.daemons;
}

abbrev pub ComesBack : Daemon → Bool → ℕ → PoolState → PoolState → Stepped → Type 0
ComesBack Schedd kept reading s new r = ScheddIsBack s kept reading new × IsDone r
ComesBack (Startd machine) kept reading s new r =
    StartdDoes machine (λ v. after_reboot v reading) s new r
ComesBack Matchmaker kept reading s new r = (new ≡ s) × IsDone r

pub record IsReopened (who : Daemon) (kept : Bool) (reading : ℕ) (s new : PoolState) (r : Stepped)
    : Type 0 where
  pub back : PoolState
  pub comes : ComesBack who kept reading s back r
  pub pool : new ≡ boots (boot_of (daemon_state who s.daemons) + 1) who back

-- ---- matches
pub record IsLiveFirst (s : PoolState) (m : Match) (j : Judgement) (reading : ℕ)
    (Rest : List Match → Type 0) (live : List Match) : Type 0 where
  pub rest : List Match
  pub are : live ≡ m ∷ rest
  pub is : IsLive s m j reading
  pub more : Rest rest

-- the matches that are live, in order
abbrev pub AreLive : PoolState → List Match → List Judgement → ℕ → List Match → Type 0
AreLive s [] js reading live = live ≡ []
AreLive s (m ∷ ms) [] reading live = live ≡ []
AreLive s (m ∷ ms) (j ∷ js) reading live =
    IsLiveFirst s m j reading (AreLive s ms js reading) live
    ⊎ ((¬ IsLive s m j reading) × AreLive s ms js reading live)

pub record ArePassed (s : PoolState) (list : List Match) (judged : List Judgement) (reading : ℕ)
    (new : PoolState) (r : Stepped) : Type 0 where
  pub live : List Match
  pub are : AreLive s list judged reading live
  pub pool : new ≡ passes live s
  pub answer : IsDone r

-- ---- each event, but for what is counted
unfoldable pub Happens : Event → PoolState → PoolState → Stepped → Type 0
Happens (event.Submit boot jobs reading) s new r = IsSubmitted s jobs new r
Happens (event.Order v job reading) s new r =
    (new ≡ gives (position (is_due_for v job reading) s.orders) v job s) × IsDone r
Happens (event.Receive who boot index reading judged mismatch) s new r =
    IsSomeAnd (slice_get s.mails.sent index)
    (λ sent. Receives who index sent.mail reading judged s new r)
Happens (event.Tick who boot reading) s new r = Ticks who reading s new r
Happens (event.Check boot job reading) s new r = ScheddLooks s job reading new r
Happens (event.Logged boot receipt) s new r =
    IsSomeAnd s.pending (λ p. IsLogged s p new r)
Happens (event.Ended machine boot receipt reading) s new r =
    StartdEnds machine receipt.item.run (λ v. after_end v receipt.item reading) s new r
Happens (event.Crash who) s new r = (new ≡ crashes who s) × IsDone r
Happens (event.Reopen who kept ended reading) s new r =
    IsReopened who (is_some kept) reading s new r
Happens (event.Matches list judged reading) s new r =
    ArePassed s list judged reading new r
Happens (event.Close length reading mismatch) s new r =
    (new ≡ record s { closed = true }) × IsDone r

abbrev pub latest_after : Option ℕ → ℕ → ℕ
latest_after None latest = latest
latest_after (Some reading) latest = max latest reading

-- one event more than there were, perhaps with a reading
abbrev pub counts_event : Event → PoolState → PoolState → PoolState
counts_event e s new =
    record new { events = s.events + 1; latest = latest_after (reading_of e) s.latest }

-- the bytes of what the event brings are counted
abbrev pub counts_brought : Event → PoolState → PoolState
counts_brought e s =
    record s { counts = record s.counts { bytes = s.counts.bytes + event_count e } }

-- what an accepted event makes of a pool
pub record Reacts (s : PoolState) (e : Event) (r : Stepped) (new : PoolState) : Type 0 where
  pub then_pool : PoolState
  pub happens : Happens e (counts_brought e s) then_pool r
  pub pool : new ≡ counts_event e s then_pool

-- What is read of a pool.
use Rattle.std.specs.Prelude.{◌≡◌, ◌⊎◌, ℕ, Bool, true, false, not, List, filter, filter_map, map, slice_get, Option, Some, None}
use Rattle.ad_tree.specs.Ad.{Attributes}
use Rattle.claim_id.specs.declared.numbers.JobId.{JobId}
use Rattle.pool_parts.specs.declared.look.Look.{Look}
use Rattle.pool_parts.specs.Listings.{AreJobs, request_at}
use Rattle.pool_shown.specs.Slots.{all_slots, told_at}
use Rattle.pool_mail.specs.declared.matching.Request.{Request}
use Rattle.pool_outer.specs.declared.gate.Daemon.{Daemon}
use Rattle.pool_outer.specs.declared.gate.Daemon.TheVariants.{Schedd, Startd, Matchmaker}
use Rattle.pool_state.specs.declared.state.PoolState.{PoolState}
use Rattle.pool_state.specs.PoolJobs.{is_engaged}
use Rattle.pool_tables.specs.declared.states.DaemonState.{DaemonState}
use Rattle.pool_tables.specs.DaemonTables.{is_up, daemon_state}
use Rattle.queue_tx.specs.declared.kind.JobKind.TheVariants.{Idle}
use Rattle.queue_tx.specs.Queues.{KeyedAds}
use Rattle.schedd_state.specs.Schedds.{ScheddValue}
use Rattle.schedd_state.specs.DueChecks.{is_check_due}
use Rattle.schedd_state.specs.DueLines.{is_due}
use Rattle.startd_core.specs.DueTicks as startd
use Rattle.startd_core.specs.DueTicks.{hangs_on_start}
use Rattle.startd_core.specs.Startds.{StartdValue}
use Rattle.startd_slot.specs.declared.slot.Slot.{Slot}

-- ---- daemons
abbrev pub boot_of : Option DaemonState → ℕ
boot_of None = 0
boot_of (Some s) = s.boot

abbrev pub is_startd_due : Option StartdValue → ℕ → Bool
is_startd_due None reading = false
is_startd_due (Some v) reading = startd.is_due v reading

-- a look at the periodic expressions of some job is due
abbrev pub IsSomeCheckDue : ScheddValue → KeyedAds → ℕ → Type 0
IsSomeCheckDue v q reading = (job : JobId) × (is_check_due v q job reading ≡ true)

abbrev pub IsDueUp : Daemon → PoolState → ℕ → Type 0
IsDueUp Schedd s reading =
    (is_due s.schedd s.queue reading ≡ true) ⊎ IsSomeCheckDue s.schedd s.queue reading
IsDueUp (Startd machine) s reading = is_startd_due (slice_get s.machines machine) reading ≡ true
IsDueUp Matchmaker s reading = ⊥

-- something is due of a daemon, which is up
abbrev pub IsDue : Daemon → PoolState → ℕ → Type 0
IsDue who s reading = (is_up (daemon_state who s.daemons) ≡ true) × IsDueUp who s reading

abbrev pub is_schedd_up : PoolState → Bool
is_schedd_up s = is_up (daemon_state Schedd s.daemons)

-- a look of the schedd, which is up, at the periodic expressions of the job is due
abbrev pub IsCheckDue : JobId → PoolState → ℕ → Type 0
IsCheckDue job s reading =
    (is_schedd_up s ≡ true) × (is_check_due s.schedd s.queue job reading ≡ true)

abbrev pub hangs_at : Option StartdValue → ℕ → Bool
hangs_at None reading = false
hangs_at (Some v) reading = hangs_on_start v reading

-- whether something is due hangs on the Start of a slot
abbrev pub hangs_on_slot : Daemon → PoolState → ℕ → Bool
hangs_on_slot Schedd s reading = false
hangs_on_slot (Startd machine) s reading = hangs_at (slice_get s.machines machine) reading
hangs_on_slot Matchmaker s reading = false

-- ---- jobs and slots
-- what the idle jobs ask for that no claim engages, in order
abbrev pub AreWanted : PoolState → List Request → Type 0
AreWanted s requests = (idle : List JobId) × AreJobs Idle s.queue None idle
    × (requests ≡ filter_map (request_at s.queue) (filter (λ job. not (is_engaged job s)) idle))

-- what there is to close by: the idle jobs, in order, and the slots, told at the greatest reading
abbrev pub IsLook : PoolState → Look → Type 0
IsLook s look = (idle : List JobId) × AreJobs Idle s.queue None idle × (look ≡ record {
  length = s.events;
  idle = filter_map (request_at s.queue) idle;
  slots = map (told_at s.latest) (all_slots s.machines);
})

abbrev pub ad_of_slot : Option Slot → Option Attributes
ad_of_slot None = None
ad_of_slot (Some slot) = Some slot.ad

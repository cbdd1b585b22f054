-- A pool that opens.
use Rattle.std.specs.Prelude.{◌≡◌, ℕ, ◌+◌, ◌*◌, ◌^◌, ◌<◌, ◌≤◌, ◌==◌, Bool, true, false, ◌&&◌, ◌||◌, List, [], ◌∷◌, ◌++◌, filter, length, map, min, Option, Some, None, if◌then◌else◌}
use Rattle.ad_tree.specs.Ad.{Attributes}
use Rattle.claim_id.specs.declared.numbers.JobId.{JobId}
use Rattle.claim_id.specs.declared.numbers.SlotId.{SlotId}
use Rattle.pool_parts.specs.Listings.{AreJobs}
use Rattle.pool_parts.specs.declared.size.TheConstants.{MAX_BYTES}
use Rattle.pool_parts.specs.Sizes.{queue_count}
use Rattle.pool_mail.specs.declared.slot_ad.SlotAd.{SlotAd}
use Rattle.pool_state.specs.declared.opening.Machinery.{Machinery}
use Rattle.pool_state.specs.declared.opening.Opening.{Opening}
use Rattle.pool_state.specs.declared.opening.QueueParts.{QueueParts}
use Rattle.pool_state.specs.declared.opening.Tables.{Tables}
use Rattle.pool_state.specs.declared.opening.TheConstants.{LAST_POOL_BOOT, MAX_JOBS, MAX_MACHINES, MAX_SLOTS}
use Rattle.pool_state.specs.declared.state.PoolState.{PoolState}
use Rattle.pool_tables.specs.DaemonTables.{first_daemons}
use Rattle.pool_tables.specs.MailLists.{MailsValue}
use Rattle.pool_tables.specs.OrderTables.{not_given}
use Rattle.pool_tables.specs.Repeats.{times_in, times_of}
use Rattle.queue_tx.specs.declared.key.Key.TheVariants.{Proc}
use Rattle.queue_tx.specs.declared.kind.JobKind.{JobKind}
use Rattle.queue_tx.specs.declared.kind.JobKind.TheVariants.{Idle, Held, Under}
use Rattle.queue_tx.specs.Queues.{KeyedAds, ad_at}
use Rattle.receipt_roll.specs.declared.roll.TheConstants.{MAX_ITEMS}
use Rattle.schedd_state.specs.Schedds.{IsOpened}
use Rattle.schedd_plan.specs.declared.status.JobStatus.{JobStatus}
use Rattle.schedd_plan.specs.declared.status.JobStatus.TheVariants.{Removed}
use Rattle.schedd_plan.specs.JobAttributes.{status_of}
use Rattle.startd_core.specs.Startds.{StartdValue, startd_value, with_slot}

-- ---- the slots in order
-- the slot that comes after so many machines, of which the last has so many slots
abbrev pub is_next_slot : ℕ → ℕ → SlotId → Bool
is_next_slot machines slots id = ((id.machine == machines) && (id.slot == 1))
    || ((id.machine + 1 == machines) && (id.slot == slots + 1))

-- how many machines slots are on, after so many of which the last has so many slots; none where the
-- slots don't stand in order
abbrev pub machines_after : ℕ → ℕ → List SlotAd → Option ℕ
machines_after machines slots [] = Some machines
machines_after machines slots (s ∷ ss) = if is_next_slot machines slots s.slot
    then machines_after (s.slot.machine + 1) s.slot.slot ss
    else None

abbrev pub machines_of : List SlotAd → Option ℕ
machines_of slots = machines_after 0 0 slots

-- ---- jobs of a queue
-- the jobs of a kind come to the end of others, in order
abbrev pub ArePushed : JobKind → KeyedAds → List JobId → List JobId → Type 0
ArePushed kind q old new = (jobs : List JobId) × AreJobs kind q None jobs × (new ≡ old ++ jobs)

-- the jobs, by kind and in order
abbrev pub AreListed : KeyedAds → List JobId → Type 0
AreListed q jobs = (idle held under : List JobId) × AreJobs Idle q None idle
    × AreJobs Held q None held × AreJobs Under q None under × (jobs ≡ idle ++ held ++ under)

abbrev pub IsJobCount : KeyedAds → ℕ → Type 0
IsJobCount q count = (jobs : List JobId) × AreListed q jobs × (count ≡ length jobs)

abbrev pub is_removed : JobStatus → Bool
is_removed Removed = true
is_removed _ = false

abbrev pub is_removed_by : Option Attributes → Bool
is_removed_by None = false
is_removed_by (Some ad) = is_removed (status_of ad)

abbrev pub is_removed_at : KeyedAds → JobId → Bool
is_removed_at q job = is_removed_by (ad_at (Proc job) q)

-- the jobs under a claim that are to be removed, in order
abbrev pub AreRemoved : KeyedAds → List JobId → Type 0
AreRemoved q jobs = (under : List JobId) × AreJobs Under q None under
    × (jobs ≡ filter (is_removed_at q) under)

-- ---- what a caller has to see to
pub record CanOpen (o : Opening) : Type 0 where
  pub machines : ℕ
  pub slots_are : machines_of o.slots ≡ Some machines
  pub some : 0 < machines
  pub few_machines : machines ≤ MAX_MACHINES
  pub few_slots : length o.slots ≤ MAX_SLOTS
  pub marks : length o.end_marks.items ≡ machines
  pub log : o.next_tx ≤ MAX_ITEMS
  pub count : ℕ
  pub count_is : IsJobCount o.queue count
  pub few_jobs : count ≤ MAX_JOBS
  pub bytes : queue_count o.queue ≤ MAX_BYTES
  pub boots : o.pool_boot ≤ LAST_POOL_BOOT

-- ---- machines
abbrev pub new_startd : Machinery → ℕ → StartdValue
new_startd m machine = startd_value
    (record { number = machine; boot = m.boot; secret_key = m.secret_key })
    m.settings 0 [] None false

-- the startds of slots in order, of which the first has these slots already
abbrev pub startds_from : Machinery → StartdValue → List SlotAd → List StartdValue
startds_from m v [] = v ∷ []
startds_from m v (s ∷ ss) = if s.slot.machine == v.machine.number
    then startds_from m (with_slot s.name s.ad v) ss
    else v ∷ startds_from m (with_slot s.name s.ad (new_startd m s.slot.machine)) ss

abbrev pub startds_of : Machinery → List SlotAd → List StartdValue
startds_of m slots = startds_from m (new_startd m 0) slots

abbrev pub machinery_of : Opening → Machinery
machinery_of o = record {
  settings = o.settings;
  boot = o.pool_boot * 2 ^ 32;
  secret_key = o.secret_key;
}

abbrev pub opening_startds : Opening → List StartdValue
opening_startds o = startds_of (machinery_of o) o.slots

-- ---- the pool
pub record HasNoMails (machines : ℕ) (repeats : List ℕ) (m : MailsValue) : Type 0 where
  pub none : m.sent ≡ []
  pub boxes : m.boxes ≡ machines + 2
  pub times : (n : ℕ) → times_of n m.repeats ≡ times_in n repeats

-- the pool of these parts
pub record IsJoined (o : Opening) (startds : List StartdValue) (t : Tables) (p : QueueParts)
    (s : PoolState) : Type 0 where
  pub machines : s.machines ≡ startds
  pub daemons : s.daemons ≡ t.daemons
  pub mails : s.mails ≡ t.mails
  pub orders : s.orders ≡ t.orders
  pub schedd : s.schedd ≡ p.schedd
  pub queue : s.queue ≡ o.queue
  pub pending : s.pending ≡ None
  pub next_tx : s.next_tx ≡ o.next_tx
  pub finished : s.finished ≡ []
  pub acked : s.acked ≡ p.acked
  pub ordered : s.ordered ≡ p.ordered
  pub reports : s.reports ≡ []
  pub log_mark : s.log_mark ≡ o.log_mark
  pub end_marks : s.end_marks ≡ o.end_marks.items
  pub settings : s.settings ≡ o.settings
  pub latest : s.latest ≡ 0
  pub events : s.events ≡ 0
  pub closed : s.closed ≡ false
  pub jobs : s.counts.jobs ≡ length p.acked
  pub bytes : s.counts.bytes ≡ min (queue_count o.queue) 18446744073709551615

pub record IsOpenedBy (o : Opening) (s : PoolState) : Type 0 where
  pub machines : s.machines ≡ opening_startds o
  pub daemons : s.daemons ≡ first_daemons (length (opening_startds o)) (o.pool_boot * 2 ^ 32)
      o.allow.crashes
  pub mails : HasNoMails (length (opening_startds o)) o.allow.repeats s.mails
  pub orders : s.orders ≡ map not_given o.wishes
  pub schedd : IsOpened o.queue o.settings s.schedd
  pub queue : s.queue ≡ o.queue
  pub pending : s.pending ≡ None
  pub next_tx : s.next_tx ≡ o.next_tx
  pub finished : s.finished ≡ []
  pub acked : AreListed o.queue s.acked
  pub ordered : AreRemoved o.queue s.ordered
  pub reports : s.reports ≡ []
  pub log_mark : s.log_mark ≡ o.log_mark
  pub end_marks : s.end_marks ≡ o.end_marks.items
  pub settings : s.settings ≡ o.settings
  pub latest : s.latest ≡ 0
  pub events : s.events ≡ 0
  pub closed : s.closed ≡ false
  pub jobs : s.counts.jobs ≡ length s.acked
  pub bytes : s.counts.bytes ≡ queue_count o.queue

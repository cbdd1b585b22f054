-- The user log of a history (HTCondor manual, "Job Event Log Codes").
use Rattle.std.specs.Prelude.{◌≡◌, ℕ, zero, suc, ◌+◌, nat_lt, List, [], ◌∷◌, ◌++◌, length, codes, decimal, ℤ, pos, ◌*ℤ◌, Option, Some, None, Bool, true, false, if◌then◌else◌}
use Rattle.std.specs.Fmt.{signed_decimal}
use Rattle.jiff.specs.Words.{civil_nanos, date_text, time_text}
use Rattle.jiff.specs.declared.civil.DateTime.{DateTime}
use Rattle.claim_id.specs.declared.numbers.JobId.{JobId}
use Rattle.claim_id.specs.declared.numbers.SlotId.{SlotId}
use Rattle.pool_mail.specs.declared.end.End.{End}
use Rattle.pool_mail.specs.declared.end.End.TheVariants.{Exited, Signalled, NotStarted}
use Rattle.thin_pool.specs.declared.event.Event.{Event}
use Rattle.thin_pool.specs.declared.event.Event.TheVariants.{Submit, Start, Ended, Close}
use Rattle.thin_pool.specs.declared.history.History.{History}
use Rattle.thin_pool.specs.declared.history.Step.{Step}
use Rattle.thin_pool.specs.declared.slot.PoolSlot.{PoolSlot}
use Rattle.thin_pool.specs.PoolValue.{PoolValue, slot_at}
use Rattle.thin_pool.specs.Reactions.{last_cluster_after}
use Rattle.pool_master.specs.Runs.{end_after, is_not_started}

abbrev pub nanos_per_second : ℤ
nanos_per_second = pos 1000000000

-- `YYYY-MM-DD HH:MM:SS`, the civil date and time of the reading in UTC
pub record IsStamp (reading : ℕ) (text : List ℕ) : Type 0 where
  pub civil : DateTime
  pub is : civil_nanos civil ≡ pos reading *ℤ nanos_per_second
  pub shown : text ≡ date_text civil.date ++ 32 ∷ time_text None civil.time

-- in decimal, with zeros before it up to three digits
abbrev pub three_digits : ℕ → List ℕ
three_digits n = if nat_lt n 10 then codes "00" ++ decimal n
    else (if nat_lt n 100 then codes "0" ++ decimal n else decimal n)

-- `(CLUSTER.PROC.000)`, the numbers of a job
abbrev pub numbers_text : ℕ → ℕ → List ℕ
numbers_text cluster proc = codes "("
    ++ (three_digits cluster ++ (codes "." ++ (three_digits proc ++ codes ".000)")))

-- an event of the log: its number, the job's numbers, the date and time, and what it says
pub record IsEntry (number : List ℕ) (cluster proc reading : ℕ) (what text : List ℕ) : Type 0 where
  pub stamp : List ℕ
  pub stamp_is : IsStamp reading stamp
  pub is : text ≡ number
      ++ (codes " " ++ (numbers_text cluster proc ++ (codes " " ++ (stamp ++ (codes " " ++ what)))))

abbrev pub submitted_text : List ℕ
submitted_text = codes "Job submitted from host: <pool>\n...\n"

-- the line of a submission of so many jobs (HTCondor manual, condor_submit)
abbrev pub submission_text : ℕ → ℕ → List ℕ
submission_text count cluster = decimal count
    ++ (codes " job(s) submitted to cluster " ++ (decimal cluster ++ codes ".\n"))

abbrev pub executing_text : List ℕ → List ℕ
executing_text slot = codes "Job executing on host: <" ++ (slot ++ codes ">\n...\n")

abbrev pub exited_text : ℤ → List ℕ
exited_text code = codes "Job terminated.\n\t(1) Normal termination (return value "
    ++ (signed_decimal code ++ codes ")\n...\n")

abbrev pub signalled_text : ℤ → List ℕ
signalled_text signal = codes "Job terminated.\n\t(0) Abnormal termination (signal "
    ++ (signed_decimal signal ++ codes ")\n...\n")

abbrev pub held_text : List ℕ
held_text = codes "Job was held.\n\tFailed to start\n...\n"

-- the name of a slot
abbrev pub name_in : Option PoolSlot → List ℕ
name_in None = []
name_in (Some s) = s.name

abbrev pub slot_name_at : List PoolSlot → SlotId → List ℕ
slot_name_at slots slot = name_in (slot_at slot slots)

-- the job's run that is running before these events ends as one that didn't start
abbrev pub never_starts : JobId → List Step → Bool
never_starts job steps = is_not_started (end_after job steps)

-- the entries of so many jobs that are submitted, from a proc on
abbrev pub AreEntries : ℕ → ℕ → ℕ → ℕ → List ℕ → Type 0
AreEntries cluster proc zero reading text = text ≡ []
AreEntries cluster proc (suc count) reading text = (first rest : List ℕ) × (text ≡ first ++ rest)
    × IsEntry (codes "000") cluster proc reading submitted_text first
    × AreEntries cluster (proc + 1) count reading rest

-- what a submission of so many jobs prints: their entries, and its line
abbrev pub IsSubmitLines : ℕ → ℕ → ℕ → List ℕ → Type 0
IsSubmitLines cluster count reading text = (entries : List ℕ)
    × (text ≡ entries ++ submission_text count cluster) × AreEntries cluster 0 count reading entries

-- what the start of a run prints: nothing where it never starts
abbrev pub IsStartLines : Bool → JobId → List ℕ → ℕ → List ℕ → Type 0
IsStartLines true job slot reading text = text ≡ []
IsStartLines false job slot reading text =
    IsEntry (codes "001") job.cluster job.proc reading (executing_text slot) text

-- what the end of a run prints
abbrev pub IsEndLines : End → JobId → ℕ → List ℕ → Type 0
IsEndLines (Exited code) job reading text =
    IsEntry (codes "005") job.cluster job.proc reading (exited_text code) text
IsEndLines (Signalled signal) job reading text =
    IsEntry (codes "005") job.cluster job.proc reading (signalled_text signal) text
IsEndLines NotStarted job reading text =
    IsEntry (codes "012") job.cluster job.proc reading held_text text

-- what an event prints in a pool of these slots, where the last cluster before it has that number
-- and these steps come after it
abbrev pub IsLines : List PoolSlot → ℕ → List Step → Event → List ℕ → Type 0
IsLines slots last after (Submit jobs reading) text =
    IsSubmitLines (last + 1) (length jobs) reading text
IsLines slots last after (Start job slot judged reading) text =
    IsStartLines (never_starts job after) job (slot_name_at slots slot) reading text
IsLines slots last after (Ended job end reading) text = IsEndLines end job reading text
IsLines slots last after (Close reading none) text = text ≡ []

-- the number of the last cluster, after an event
abbrev pub last_cluster_with : ℕ → Event → ℕ
last_cluster_with last (Submit jobs reading) = last_cluster_after last jobs
last_cluster_with last (Start job slot judged reading) = last
last_cluster_with last (Ended job end reading) = last
last_cluster_with last (Close reading none) = last

-- what these events print, one after the other
abbrev pub ArePrinted : List PoolSlot → ℕ → List Step → List ℕ → Type 0
ArePrinted slots last [] text = text ≡ []
ArePrinted slots last (s ∷ ss) text = (first rest : List ℕ) × (text ≡ first ++ rest)
    × IsLines slots last ss s.event first
    × ArePrinted slots (last_cluster_with last s.event) ss rest

abbrev pub IsLogOf : Option PoolValue → List Step → List ℕ → Type 0
IsLogOf None steps text = text ≡ []
IsLogOf (Some opening) steps text = ArePrinted opening.slots 0 steps text

-- the user log of a history
abbrev pub IsUserLog : History → List ℕ → Type 0
IsUserLog history text = IsLogOf history.opening history.list text

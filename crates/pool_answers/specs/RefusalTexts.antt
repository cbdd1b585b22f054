-- The texts of refusals, whose parts stand behind tabs.
use Rattle.std.specs.Prelude.{ℕ, List, [], ◌++◌, Option, Some, None, codes, decimal}
use Rattle.claim_id.specs.declared.numbers.SlotId.{SlotId}
use Rattle.claim_id.specs.Texts.{job_text}
use Rattle.daemon_texts.specs.NumberTexts.{run_text}
use Rattle.pool_outer.specs.declared.gate.Daemon.{Daemon}
use Rattle.pool_outer.specs.declared.gate.Daemon.TheVariants.{Schedd, Startd, Matchmaker}
use Rattle.pool_tables.specs.declared.refusal.StepError.{StepError}
use Rattle.pool_tables.specs.declared.refusal.StepError.TheVariants as refusal
use Rattle.pool_tables.specs.declared.refusal.Unquiet.{Unquiet}
use Rattle.pool_tables.specs.declared.refusal.Unquiet.TheVariants as left

abbrev pub daemon_text : Daemon → List ℕ
daemon_text Schedd = codes "schedd"
daemon_text (Startd machine) = codes "startd:" ++ decimal machine
daemon_text Matchmaker = codes "matchmaker"

-- `M:S`
abbrev pub slot_field : SlotId → List ℕ
slot_field s = decimal s.machine ++ (codes ":" ++ decimal s.slot)

-- a number, or `-`
abbrev pub some_number : Option ℕ → List ℕ
some_number (Some number) = decimal number
some_number None = codes "-"

-- the name of a variant, and its daemon
unfoldable pub daemon_refusal : List ℕ → Daemon → List ℕ
daemon_refusal name who = name ++ (codes "\t" ++ daemon_text who)

-- what is left to do in a pool that is to be closed
unfoldable pub unquiet_text : Unquiet → List ℕ
unquiet_text (left.Down who) = daemon_refusal (codes "NotQuiet\tDown") who
unquiet_text (left.Claim slot) = codes "NotQuiet\tClaim\t" ++ slot_field slot
unquiet_text (left.Under job) = codes "NotQuiet\tUnder\t" ++ job_text job
unquiet_text (left.Pending number) = codes "NotQuiet\tPending\t" ++ decimal number
unquiet_text (left.Order place) = codes "NotQuiet\tOrder\t" ++ decimal place

-- the variant, and its values; want of memory has no text
unfoldable pub refusal_text : StepError → List ℕ
refusal_text refusal.Closed = codes "Closed"
refusal_text refusal.Events = codes "Events"
refusal_text (refusal.Down who) = daemon_refusal (codes "Down") who
refusal_text (refusal.Up who) = daemon_refusal (codes "Up") who
refusal_text (refusal.OldBoot asked current) =
    codes "OldBoot\t" ++ (decimal asked ++ (codes "\t" ++ decimal current))
refusal_text (refusal.NoMail index sent) =
    codes "NoMail\t" ++ (decimal index ++ (codes "\t" ++ decimal sent))
refusal_text (refusal.NotYours index to) =
    codes "NotYours\t" ++ (decimal index ++ (codes "\t" ++ daemon_text to))
refusal_text (refusal.Again index) = codes "Again\t" ++ decimal index
refusal_text (refusal.StillPending number) = codes "StillPending\t" ++ decimal number
refusal_text (refusal.NotPending asked current) =
    codes "NotPending\t" ++ (decimal asked ++ (codes "\t" ++ some_number current))
refusal_text (refusal.OtherItem number) = codes "OtherItem\t" ++ decimal number
refusal_text (refusal.NoRun run) = codes "NoRun\t" ++ run_text run
refusal_text (refusal.RunLeft run) = codes "RunLeft\t" ++ run_text run
refusal_text refusal.NotDue = codes "NotDue"
refusal_text (refusal.AdMoved slot) = codes "AdMoved\t" ++ slot_field slot
refusal_text (refusal.Moved asked length) =
    codes "Moved\t" ++ (decimal asked ++ (codes "\t" ++ decimal length))
refusal_text (refusal.NotQuiet what) = unquiet_text what
refusal_text refusal.Jobs = codes "Jobs"
refusal_text refusal.Bytes = codes "Bytes"
refusal_text refusal.Memory = []

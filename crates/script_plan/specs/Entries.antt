-- What a line of a script says.
use Rattle.std.specs.Prelude.{◌≡◌, ◌≢◌, ℕ, ◌<◌, ◌≤◌, ◌^◌, Bool, true, false, List, [], ◌∷◌, Option, Some, None, position, codes}
use Rattle.std.specs.Str.{bytes_eq}
use Rattle.ad_value.specs.Decimals.{IsNumber}
use Rattle.pool_outer.specs.declared.clock.TheConstants.{LAST_READING}
use Rattle.claim_id.specs.declared.numbers.JobId.{JobId}
use Rattle.claim_id.specs.declared.order.Verb.{Verb}
use Rattle.claim_id.specs.declared.order.Verb.TheVariants as verb
use Rattle.claim_id.specs.declared.order.Wish.{Wish}
use Rattle.claim_id.specs.Texts.{job_text, IsJob}
use Rattle.script_plan.specs.declared.entry.Crash.{Crash}
use Rattle.script_plan.specs.declared.entry.Entry.{Entry}
use Rattle.script_plan.specs.declared.entry.Entry.TheVariants as entry
use Rattle.script_plan.specs.declared.entry.Load.{Load}
use Rattle.script_plan.specs.declared.storms.TheConstants.{MAX_LOAD_NUMBER, MAX_LOAD_JOBS}

abbrev pub IsTime : List ℕ → ℕ → Type 0
IsTime word n = IsNumber word n × (n ≤ LAST_READING)

abbrev pub IsVerb : List ℕ → Verb → Type 0
IsVerb word verb.Remove = word ≡ codes "rm"
IsVerb word verb.Hold = word ≡ codes "hold"
IsVerb word verb.Resume = word ≡ codes "release"

abbrev pub IsJobWord : List ℕ → JobId → Type 0
IsJobWord word job = IsJob job × (word ≡ job_text job)

-- T VERB JOB
abbrev pub IsOrder : List (List ℕ) → Wish → Type 0
IsOrder (time ∷ word ∷ job ∷ []) wish =
    IsTime time wish.at × IsVerb word wish.verb × IsJobWord job wish.job
IsOrder words wish = ⊥

-- N
abbrev pub IsMail : List (List ℕ) → ℕ → Type 0
IsMail (number ∷ []) n = IsNumber number n
IsMail words n = ⊥

-- `schedd`, or a machine's name: the place of the first of that name
abbrev pub IsDaemon : List (List ℕ) → List ℕ → Option ℕ → Type 0
IsDaemon machines word None = word ≡ codes "schedd"
IsDaemon machines word (Some place) =
    (word ≢ codes "schedd") × (position (bytes_eq word) machines ≡ Some place) × (place < 2 ^ 16)

abbrev pub IsPoint : List ℕ → ℕ → Type 0
IsPoint word n = IsNumber word n × (0 < n)

-- DAEMON N
abbrev pub IsCrash : List (List ℕ) → List (List ℕ) → Crash → Type 0
IsCrash machines (daemon ∷ point ∷ []) crash =
    IsDaemon machines daemon crash.machine × IsPoint point crash.point
IsCrash machines words crash = ⊥

abbrev pub IsLoadNumber : List ℕ → ℕ → Type 0
IsLoadNumber word n = IsNumber word n × (n ≤ MAX_LOAD_NUMBER)

abbrev pub IsLoadJobs : List ℕ → ℕ → Type 0
IsLoadJobs word n = IsNumber word n × (0 < n) × (n ≤ MAX_LOAD_JOBS)

-- NUMBER JOBS
abbrev pub IsLoad : List (List ℕ) → Load → Type 0
IsLoad (number ∷ jobs ∷ []) load = IsLoadNumber number load.number × IsLoadJobs jobs load.jobs
IsLoad words load = ⊥

-- what a line's first word and the words behind it say
abbrev pub SaysAfter : List (List ℕ) → List ℕ → List (List ℕ) → Entry → Type 0
SaysAfter machines first rest (entry.Order wish) = (first ≡ codes "at") × IsOrder rest wish
SaysAfter machines first rest (entry.Lose n) = (first ≡ codes "lose") × IsMail rest n
SaysAfter machines first rest (entry.Repeat n) = (first ≡ codes "repeat") × IsMail rest n
SaysAfter machines first rest (entry.Late n) = (first ≡ codes "late") × IsMail rest n
SaysAfter machines first rest (entry.Crash crash) =
    (first ≡ codes "crash") × IsCrash machines rest crash
SaysAfter machines first rest (entry.Load load) = (first ≡ codes "load") × IsLoad rest load

-- what the words of a line say, over the names of the machines
abbrev pub Says : List (List ℕ) → List (List ℕ) → Entry → Type 0
Says machines [] e = ⊥
Says machines (first ∷ rest) e = SaysAfter machines first rest e

abbrev pub wish_in : Entry → Option Wish
wish_in (entry.Order wish) = Some wish
wish_in e = None

abbrev pub lost_in : Entry → Option ℕ
lost_in (entry.Lose n) = Some n
lost_in e = None

abbrev pub repeated_in : Entry → Option ℕ
repeated_in (entry.Repeat n) = Some n
repeated_in e = None

abbrev pub late_in : Entry → Option ℕ
late_in (entry.Late n) = Some n
late_in e = None

abbrev pub crash_in : Entry → Option Crash
crash_in (entry.Crash crash) = Some crash
crash_in e = None

abbrev pub load_in : Entry → Option Load
load_in (entry.Load load) = Some load
load_in e = None

abbrev pub is_load : Entry → Bool
is_load (entry.Load load) = true
is_load e = false

-- The names that a configuration sets.
use Rattle.ad_value.specs.Bytes.{code}
use Rattle.std.specs.Prelude.{ℕ, ◌==◌, ◌&&◌, ◌||◌, not, nat_eq, nat_lt, Bool, List, [], ◌∷◌, length, codes, find, Option, Some, None, option_map, if◌then◌else◌}
use Rattle.std.specs.List.{list_any, list_all, position_or_len, before_first, after_first}
use Rattle.ad_value.specs.Names.{same_name}
use Rattle.ad_value.specs.declared.names.job.TheConstants.{ARGS, ARGUMENTS, CLUSTER_ID, CMD, ERR, IN, IWD, JOB_LEASE_DURATION, JOB_PRIO, JOB_UNIVERSE, ON_EXIT_HOLD, ON_EXIT_REMOVE, OUT, OWNER, PERIODIC_HOLD, PERIODIC_RELEASE, PERIODIC_REMOVE, PROC_ID, Q_DATE, REQUEST_CPUS, REQUEST_DISK, REQUEST_MEMORY, USER_LOG}
use Rattle.ad_value.specs.declared.names.matching.TheConstants.{RANK, REQUIREMENTS}
use Rattle.ad_value.specs.declared.names.slot.TheConstants.{ARCH, CPUS, DISK, MACHINE, MEMORY, MY_TYPE, NAME, OP_SYS, SLOT_ID, START}
use Rattle.ad_value.specs.Groups.{pool_names}
use Rattle.ad_token.specs.Lexing.{is_blank}
use Rattle.ad_token.specs.Names.{is_name, is_name_byte}
use Rattle.ad_token.specs.Blanks.{trimmed_text}
use Rattle.pool_config.specs.declared.setting_word.Interval.{Interval}
use Rattle.pool_config.specs.declared.setting_word.Interval.TheVariants as interval
use Rattle.pool_config.specs.declared.setting_word.PoolWord.{PoolWord}
use Rattle.pool_config.specs.declared.setting_word.PoolWord.TheVariants as pool
use Rattle.pool_config.specs.declared.setting_word.SlotWord.{SlotWord}
use Rattle.pool_config.specs.declared.setting_word.SlotWord.TheVariants as slot
use Rattle.pool_config.specs.Keys.{Sets, of_pool, ceiling, prio_factor, of_slots, attribute}

-- ---- words

abbrev pub interval_name : Interval → List ℕ
interval_name interval.ClassadLifetime = codes "CLASSAD_LIFETIME"
interval_name interval.UpdateInterval = codes "UPDATE_INTERVAL"
interval_name interval.NegotiatorInterval = codes "NEGOTIATOR_INTERVAL"
interval_name interval.AliveInterval = codes "ALIVE_INTERVAL"
interval_name interval.JobLease = codes "JOB_LEASE"
interval_name interval.ClaimLease = codes "CLAIM_LEASE"
interval_name interval.MatchTimeout = codes "MATCH_TIMEOUT"
interval_name interval.PeriodicExprInterval = codes "PERIODIC_EXPR_INTERVAL"
interval_name interval.DecayTick = codes "DECAY_TICK"
interval_name interval.MaxJobRetirementTime = codes "MAXJOBRETIREMENTTIME"
interval_name interval.MachineMaxVacateTime = codes "MACHINEMAXVACATETIME"

abbrev pub intervals : List Interval
intervals =
    interval.ClassadLifetime ∷ interval.UpdateInterval ∷ interval.NegotiatorInterval
    ∷ interval.AliveInterval ∷ interval.JobLease ∷ interval.ClaimLease ∷ interval.MatchTimeout
    ∷ interval.PeriodicExprInterval ∷ interval.DecayTick
    ∷ interval.MaxJobRetirementTime ∷ interval.MachineMaxVacateTime ∷ []

abbrev pub pool_word_name : PoolWord → List ℕ
pool_word_name pool.Spool = codes "SPOOL"
pool_word_name pool.Owner = codes "OWNER"
pool_word_name (pool.Seconds i) = interval_name i
pool_word_name pool.PreemptionRequirements = codes "PREEMPTION_REQUIREMENTS"
pool_word_name pool.Machine = codes "MACHINE"

abbrev pub slot_word_name : SlotWord → List ℕ
slot_word_name slot.Slots = codes "SLOTS"
slot_word_name slot.Cpus = codes "CPUS"
slot_word_name slot.Memory = codes "MEMORY"
slot_word_name slot.Disk = codes "DISK"
slot_word_name slot.Start = codes "START"
slot_word_name slot.Rank = codes "RANK"

abbrev pub pool_words : List PoolWord
pool_words =
    pool.Spool ∷ pool.Owner
    ∷ pool.Seconds interval.ClassadLifetime ∷ pool.Seconds interval.UpdateInterval
    ∷ pool.Seconds interval.NegotiatorInterval ∷ pool.Seconds interval.AliveInterval
    ∷ pool.Seconds interval.JobLease ∷ pool.Seconds interval.ClaimLease
    ∷ pool.Seconds interval.MatchTimeout ∷ pool.Seconds interval.PeriodicExprInterval
    ∷ pool.Seconds interval.DecayTick
    ∷ pool.Seconds interval.MaxJobRetirementTime ∷ pool.Seconds interval.MachineMaxVacateTime
    ∷ pool.PreemptionRequirements ∷ pool.Machine ∷ []

abbrev pub slot_words : List SlotWord
slot_words = slot.Slots ∷ slot.Cpus ∷ slot.Memory ∷ slot.Disk ∷ slot.Start ∷ slot.Rank ∷ []

-- ---- attributes of a machine's own

-- what a slot's ad has from the pool
abbrev pub slot_attributes : List (List ℕ)
slot_attributes =
    MY_TYPE.now ∷ NAME.now ∷ MACHINE.now ∷ SLOT_ID.now ∷ OP_SYS.now ∷ ARCH.now
    ∷ CPUS.now ∷ MEMORY.now ∷ DISK.now ∷ START.now ∷ REQUIREMENTS.now ∷ RANK.now ∷ []

-- what a job's ad has from its submission on, beside what stands in `slot_attributes` and
-- `pool_names`
abbrev pub job_attributes : List (List ℕ)
job_attributes =
    CLUSTER_ID.now ∷ PROC_ID.now ∷ OWNER.now ∷ Q_DATE.now ∷ JOB_UNIVERSE.now
    ∷ CMD.now ∷ ARGS.now ∷ ARGUMENTS.now ∷ IWD.now ∷ IN.now ∷ OUT.now ∷ ERR.now ∷ USER_LOG.now
    ∷ JOB_PRIO.now ∷ REQUEST_CPUS.now ∷ REQUEST_MEMORY.now ∷ REQUEST_DISK.now
    ∷ JOB_LEASE_DURATION.now ∷ ON_EXIT_HOLD.now ∷ ON_EXIT_REMOVE.now
    ∷ PERIODIC_HOLD.now ∷ PERIODIC_REMOVE.now ∷ PERIODIC_RELEASE.now ∷ []

-- the pool gives slots or jobs an attribute of that name
abbrev pub is_taken : List ℕ → Bool
is_taken x =
    list_any (same_name x) slot_attributes
    || (list_any (same_name x) job_attributes || list_any (same_name x) pool_names)

-- ---- what a name sets

-- what stands before the first such byte, and what after it
abbrev pub cut_at : ℕ → List ℕ → Option (List ℕ × List ℕ)
cut_at mark bs =
    if nat_lt (position_or_len (λ b. b == mark) bs) (length bs)
    then Some (before_first (λ b. b == mark) bs, after_first (λ b. b == mark) bs)
    else None

abbrev pub or_else : {X : Type 0} → Option X → Option X → Option X
or_else (Some x) y = Some x
or_else None y = y

-- a word, without case
abbrev pub slot_sets : List ℕ → Option Sets
slot_sets name = option_map of_slots (find (λ w. same_name name (slot_word_name w)) slot_words)

abbrev pub pool_sets : List ℕ → Option Sets
pool_sets name = option_map of_pool (find (λ w. same_name name (pool_word_name w)) pool_words)

abbrev pub word_sets : List ℕ → Option Sets
word_sets name = or_else (pool_sets name) (slot_sets name)

-- `ATTR.NAME` of a name that is not taken, `CEILING.USER` and `PRIO_FACTOR.USER`: what stands
-- before the dot is without case
abbrev pub attribute_sets : List ℕ → Option Sets
attribute_sets x = if is_name x && not (is_taken x) then Some (attribute x) else None

abbrev pub user_sets : List ℕ → List ℕ → Option Sets
user_sets prefix user =
    if same_name prefix (codes "CEILING") then Some (ceiling user)
    else (if same_name prefix (codes "PRIO_FACTOR") then Some (prio_factor user)
    else None)

abbrev pub dotted_sets : List ℕ → List ℕ → Option Sets
dotted_sets prefix rest =
    if same_name prefix (codes "ATTR") then attribute_sets rest
    else (if nat_eq (length rest) 0 then None else user_sets prefix rest)

abbrev pub sets_with : List ℕ → Option (List ℕ × List ℕ) → Option Sets
sets_with name (Some p) = dotted_sets p.0 p.1
sets_with name None = word_sets name

abbrev pub name_sets : List ℕ → Option Sets
name_sets name = sets_with name (cut_at (code ".") name)

-- ---- lines

abbrev pub has_blank : List ℕ → Bool
has_blank bs = list_any is_blank bs

-- what stands before the first dot
abbrev pub head_with : List ℕ → Option (List ℕ × List ℕ) → List ℕ
head_with name (Some p) = p.0
head_with name None = name

abbrev pub head_of : List ℕ → List ℕ
head_of name = head_with name (cut_at (code ".") name)

-- no blanks, and before the first dot only letters, digits and `_`
abbrev pub is_setting_name : List ℕ → Bool
is_setting_name name =
    not (nat_eq (length name) 0)
    && (not (has_blank name) && list_all is_name_byte (head_of name))

abbrev pub named : List ℕ → List ℕ → Option (List ℕ × List ℕ)
named name value = if is_setting_name name then Some (name, trimmed_text value) else None

abbrev pub setting_of : Option (List ℕ × List ℕ) → Option (List ℕ × List ℕ)
setting_of None = None
setting_of (Some p) = named (trimmed_text p.0) p.1

-- the name and the value of a line `NAME = value`, without the blanks round them
abbrev pub setting_in : List ℕ → Option (List ℕ × List ℕ)
setting_in line = setting_of (cut_at (code "=") line)

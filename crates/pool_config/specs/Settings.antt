-- What a value sets, once its macros are replaced.
use Rattle.ad_value.specs.Bytes.{code}
use Rattle.std.specs.Prelude.{ℕ, ◌+◌, ◌==◌, ◌&&◌, ◌||◌, not, nat_eq, nat_lt, nat_le, Bool, true, false, List, [], ◌∷◌, ◌++◌, length, Option, Some, None, is_some, Result, Ok, Err, if◌then◌else◌}
use Rattle.std.specs.List.{list_any, list_all}
use Rattle.std.specs.Str.{bytes_eq}
use Rattle.ad_value.specs.declared.user_number.UserNumber.{UserNumber}
use Rattle.ad_tree.specs.Ad.{Attributes, lookup, with_attribute}
use Rattle.ad_tree.specs.Tree.{Tree}
use Rattle.ad_token.specs.Names.{is_name, is_name_byte}
use Rattle.ad_parse.specs.declared.error.ParseError.{ParseError}
use Rattle.ad_parse.specs.declared.error.ParseError.TheVariants as parse
use Rattle.ad_parse.specs.ExprText.{expression_at}
use Rattle.submit_lines.specs.Numbers.{decimal}
use Rattle.pool_config.specs.declared.config.TheConstants.{MAX_MACHINES, MAX_SLOTS, MAX_MACHINE_ATTRIBUTES}
use Rattle.pool_config.specs.declared.value.TheConstants.{MAX_SECONDS, MAX_CEILING, MAX_FACTOR, MAX_AMOUNT, MAX_MACHINE_NAME}
use Rattle.pool_config.specs.declared.error.ConfigError.{ConfigError}
use Rattle.pool_config.specs.declared.error.ConfigError.TheVariants as error
use Rattle.pool_config.specs.declared.setting_word.Interval.{Interval}
use Rattle.pool_config.specs.declared.setting_word.Interval.TheVariants as interval
use Rattle.pool_config.specs.declared.setting_word.PoolWord.{PoolWord}
use Rattle.pool_config.specs.declared.setting_word.PoolWord.TheVariants as pool
use Rattle.pool_config.specs.declared.setting_word.SlotWord.{SlotWord}
use Rattle.pool_config.specs.declared.setting_word.SlotWord.TheVariants as slot
use Rattle.pool_config.specs.Configuration.{Configuration, ConfiguredMachine, plain_machine, total_slots}
use Rattle.pool_config.specs.Keys.{Sets, of_pool, ceiling, prio_factor, of_slots, attribute, least_seconds, is_of_machine}

-- ---- values

-- the number that a text is, in decimal digits without sign and without leading zeros, where it is
-- within bounds
abbrev pub in_bounds : ℕ → ℕ → Option ℕ → Option ℕ
in_bounds least most None = None
in_bounds least most (Some n) = if nat_le least n && nat_le n most then Some n else None

abbrev pub number_within : ℕ → ℕ → List ℕ → Option ℕ
number_within least most x = in_bounds least most (decimal x)

-- the expression that a text says
abbrev pub if_said : Result Tree ParseError → Option Tree
if_said (Ok e) = Some e
if_said (Err f) = None

abbrev pub expression_in : List ℕ → Option Tree
expression_in x = if_said (expression_at x)

abbrev pub is_memory : ParseError → Bool
is_memory parse.Memory = true
is_memory _ = false

-- a letter, a digit, `_`, `-` or `.`
abbrev pub is_machine_byte : ℕ → Bool
is_machine_byte b = is_name_byte b || ((b == code "-") || (b == code "."))

abbrev pub is_machine_name : List ℕ → Bool
is_machine_name x =
    not (nat_eq (length x) 0)
    && (nat_le (length x) MAX_MACHINE_NAME && list_all is_machine_byte x)

-- what is done with a value, if there is one
abbrev pub with_value : {X Y : Type 0} → ℕ → (X → Y) → Option X → Result Y ConfigError
with_value n f (Some x) = Ok (f x)
with_value n f None = Err (error.BadValue n)

-- ---- users

-- a user who is there keeps the place, and a new one comes last
abbrev pub with_user : List ℕ → ℕ → List UserNumber → List UserNumber
with_user u n [] = record { user = u; number = n } ∷ []
with_user u n (x ∷ xs) =
    if bytes_eq u x.user then record { user = x.user; number = n } ∷ xs
    else x ∷ with_user u n xs

-- ---- machines

-- a machine has that name, with case
abbrev pub has_machine : List ℕ → List ConfiguredMachine → Bool
has_machine x ms = list_any (λ m. bytes_eq x m.name) ms

-- how many slots, from 1; with those of the other machines they are within the limit
abbrev pub slots_with : ℕ → ℕ → ConfiguredMachine → Option ℕ → Result ConfiguredMachine ConfigError
slots_with others n m None = Err (error.BadValue n)
slots_with others n m (Some k) =
    if nat_eq k 0 then Err (error.BadValue n)
    else (if nat_lt MAX_SLOTS (others + k) then Err (error.Slots n)
    else Ok (record m { slots = k }))

-- the name is new, and the machine has as many attributes as it may
abbrev pub is_full : List ℕ → Attributes → Bool
is_full x ad = nat_le MAX_MACHINE_ATTRIBUTES (length ad) && not (is_some (lookup x ad))

-- a machine's own attributes with one more, where there is room for its name
abbrev pub attributes_with : List ℕ → ℕ → Tree → Attributes → Result Attributes ConfigError
attributes_with x n e ad =
    if is_full x ad then Err (error.Full n) else Ok (with_attribute x e ad)

abbrev pub attribute_with : List ℕ → ℕ → ConfiguredMachine → Option Tree
    → Result ConfiguredMachine ConfigError
attribute_with x n m None = Err (error.BadValue n)
attribute_with x n m (Some e) =
    if is_full x m.attrs then Err (error.Full n)
    else Ok (record m { attrs = with_attribute x e m.attrs })

-- an amount of each slot
abbrev pub amount_in : List ℕ → Option ℕ
amount_in x = number_within 0 MAX_AMOUNT x

abbrev pub cpus_with : List ℕ → ℕ → ConfiguredMachine → Result ConfiguredMachine ConfigError
cpus_with x n m = with_value n (λ k. record m { cpus = k }) (amount_in x)

abbrev pub memory_with : List ℕ → ℕ → ConfiguredMachine → Result ConfiguredMachine ConfigError
memory_with x n m = with_value n (λ k. record m { memory = k }) (amount_in x)

abbrev pub disk_with : List ℕ → ℕ → ConfiguredMachine → Result ConfiguredMachine ConfigError
disk_with x n m = with_value n (λ k. record m { disk = k }) (amount_in x)

abbrev pub start_with : List ℕ → ℕ → ConfiguredMachine → Result ConfiguredMachine ConfigError
start_with x n m = with_value n (λ e. record m { start = e }) (expression_in x)

abbrev pub rank_with : List ℕ → ℕ → ConfiguredMachine → Result ConfiguredMachine ConfigError
rank_with x n m = with_value n (λ e. record m { rank = e }) (expression_in x)

-- what a value in line n sets of a machine, where the others have so many slots
abbrev pub machine_with : SlotWord → List ℕ → ℕ → ℕ → ConfiguredMachine
    → Result ConfiguredMachine ConfigError
machine_with slot.Slots x n others m = slots_with others n m (decimal x)
machine_with slot.Cpus x n others m = cpus_with x n m
machine_with slot.Memory x n others m = memory_with x n m
machine_with slot.Disk x n others m = disk_with x n m
machine_with slot.Start x n others m = start_with x n m
machine_with slot.Rank x n others m = rank_with x n m

-- ---- a configuration under way

-- what was set so far, and behind its machines the one that is being set
pub record SoFar : Type 0 where
  pub config : Configuration
  pub last : Option ConfiguredMachine

abbrev pub and_last : List ConfiguredMachine → Option ConfiguredMachine → List ConfiguredMachine
and_last ms None = ms
and_last ms (Some m) = ms ++ m ∷ []

abbrev pub with_machines : List ConfiguredMachine → Configuration → Configuration
with_machines ms c = record c { machines = ms }

-- all of it
abbrev pub whole : SoFar → Configuration
whole s = with_machines (and_last s.config.machines s.last) s.config

-- the name is none of a machine, or that of another
abbrev pub is_unfit : List ℕ → List ConfiguredMachine → Bool
is_unfit x ms = not (is_machine_name x) || has_machine x ms

-- whether a machine may begin behind others
abbrev pub machine_check : List ℕ → ℕ → List ConfiguredMachine → Result (Unit {0}) ConfigError
machine_check x n ms =
    if is_unfit x ms then Err (error.BadValue n)
    else (if nat_le MAX_MACHINES (length ms) then Err (error.Machines n)
    else (if nat_lt MAX_SLOTS (total_slots ms + 1) then Err (error.Slots n)
    else Ok tt))

abbrev pub begin_if : List ℕ → Configuration → Result (Unit {0}) ConfigError
    → Result SoFar ConfigError
begin_if x c (Ok u) = Ok (record { config = c; last = Some (plain_machine x) })
begin_if x c (Err f) = Err f

-- a machine begins behind all others
abbrev pub begin_behind : List ℕ → ℕ → Configuration → Result SoFar ConfigError
begin_behind x n c = begin_if x c (machine_check x n c.machines)

abbrev pub with_seconds : Interval → ℕ → Configuration → Configuration
with_seconds interval.ClassadLifetime n c = record c { classad_lifetime = n }
with_seconds interval.UpdateInterval n c = record c { update_interval = n }
with_seconds interval.NegotiatorInterval n c = record c { negotiator_interval = n }
with_seconds interval.AliveInterval n c = record c { alive_interval = n }
with_seconds interval.JobLease n c = record c { job_lease = n }
with_seconds interval.ClaimLease n c = record c { claim_lease = n }
with_seconds interval.MatchTimeout n c = record c { match_timeout = n }
with_seconds interval.PeriodicExprInterval n c = record c { periodic_expr_interval = n }
with_seconds interval.DecayTick n c = record c { decay_tick = n }
with_seconds interval.MaxJobRetirementTime n c = record c { maxjobretirementtime = n }
with_seconds interval.MachineMaxVacateTime n c = record c { machinemaxvacatetime = n }

abbrev pub seconds_in : Interval → List ℕ → Option ℕ
seconds_in i x = number_within (least_seconds i) MAX_SECONDS x

abbrev pub owner_in : List ℕ → Option (List ℕ)
owner_in x = if is_name x then Some x else None

abbrev pub with_config : Configuration → SoFar → SoFar
with_config c s = record s { config = c }

abbrev pub spool_with : List ℕ → SoFar → SoFar
spool_with x s = with_config (record s.config { spool = Some x }) s

-- what a value in line n sets of the pool
abbrev pub pool_with : PoolWord → List ℕ → ℕ → SoFar → Result SoFar ConfigError
pool_with pool.Spool x n s = Ok (spool_with x s)
pool_with pool.Owner x n s =
    with_value n (λ o. with_config (record s.config { owner = o }) s) (owner_in x)
pool_with (pool.Seconds i) x n s =
    with_value n (λ k. with_config (with_seconds i k s.config) s) (seconds_in i x)
pool_with pool.PreemptionRequirements x n s =
    with_value n (λ e. with_config (record s.config { preemption_requirements = e }) s)
    (expression_in x)
pool_with pool.Machine x n s = begin_behind x n (whole s)

abbrev pub with_last : SoFar → Result ConfiguredMachine ConfigError → Result SoFar ConfigError
with_last s (Ok m) = Ok (record s { last = Some m })
with_last s (Err f) = Err f

-- what a value in line n sets of the last machine
abbrev pub last_with : (ConfiguredMachine → Result ConfiguredMachine ConfigError) → ℕ → SoFar
    → Option ConfiguredMachine → Result SoFar ConfigError
last_with f n s (Some m) = with_last s (f m)
last_with f n s None = Err (error.BadLine n)

abbrev pub ceiling_in : List ℕ → Option ℕ
ceiling_in x = number_within 0 MAX_CEILING x

abbrev pub factor_in : List ℕ → Option ℕ
factor_in x = number_within 1 MAX_FACTOR x

abbrev pub ceiling_set : List ℕ → SoFar → ℕ → SoFar
ceiling_set u s k = with_config (record s.config { ceiling = with_user u k s.config.ceiling }) s

abbrev pub factor_set : List ℕ → SoFar → ℕ → SoFar
factor_set u s k =
    with_config (record s.config { prio_factor = with_user u k s.config.prio_factor }) s

-- what a value in line n sets
abbrev pub set_to : Sets → List ℕ → ℕ → SoFar → Result SoFar ConfigError
set_to (of_pool w) x n s = pool_with w x n s
set_to (ceiling u) x n s = with_value n (ceiling_set u s) (ceiling_in x)
set_to (prio_factor u) x n s = with_value n (factor_set u s) (factor_in x)
set_to (of_slots w) x n s =
    last_with (machine_with w x n (total_slots s.config.machines)) n s s.last
set_to (attribute a) x n s =
    last_with (λ m. attribute_with a n m (expression_in x)) n s s.last

-- it sets what a machine's slots have, and there is no machine yet
abbrev pub is_homeless : Sets → SoFar → Bool
is_homeless k s = is_of_machine k && not (is_some s.last)

-- Each machine of a configuration has a slot.
use Rattle.std.proofs.Common.{◌≡◌, ◌<◌, ℕ, zero, suc, ◌+◌, length, Bool, true, false, true≢false, cond, List, [], ◌∷◌, ◌++◌, Option, Some, None, Result, Ok, Err, IfOk, refl, sym, subst, arith}
use Rattle.std.specs.Prelude.{nat_le, nat_lt, nat_eq}
use Rattle.ad_tree.specs.Ad.{with_attribute}
use Rattle.ad_tree.specs.Tree.{Tree}
use Rattle.line_text.specs.declared.logical.Line.{Line}
use Rattle.line_text.specs.Lines.{logical_lines}
use Rattle.line_text.specs.Macros.{Macros}
use Rattle.submit_lines.specs.Numbers.{decimal}
use Rattle.pool_config.specs.declared.config.Config.{Config}
use Rattle.pool_config.specs.declared.config.TheConstants.{MAX_MACHINES, MAX_SLOTS}
use Rattle.pool_config.specs.declared.error.ConfigError.{ConfigError}
use Rattle.pool_config.specs.declared.error.ConfigError.TheVariants as error
use Rattle.pool_config.specs.declared.setting_word.Interval.{Interval}
use Rattle.pool_config.specs.declared.setting_word.Interval.TheVariants as interval
use Rattle.pool_config.specs.declared.setting_word.PoolWord.{PoolWord}
use Rattle.pool_config.specs.declared.setting_word.PoolWord.TheVariants as pool
use Rattle.pool_config.specs.declared.setting_word.SlotWord.{SlotWord}
use Rattle.pool_config.specs.declared.setting_word.SlotWord.TheVariants as slot
use Rattle.pool_config.specs.Configuration.{Configuration, ConfiguredMachine, configuration_of, outcome, HaveSlots, total_slots, plain_machine}
use Rattle.pool_config.specs.Errors.{UnlessMemory}
use Rattle.pool_config.specs.Keys.{Sets, of_pool, ceiling, prio_factor, of_slots, attribute}
use Rattle.pool_config.specs.Settings.{SoFar, and_last, set_to, pool_with, whole, with_value, with_seconds, with_config, seconds_in, owner_in, expression_in, machine_check, begin_if, last_with, with_last, machine_with, slots_with, attribute_with, amount_in, is_full, is_unfit, ceiling_in, factor_in, ceiling_set, factor_set}
use Rattle.pool_config.specs.Lines.{LinesSoFar, ReadResult, TakesValue, no_expansion, expanded, TakesKey, homeless, takes, TakesSetting, unknown, known, TakesLine, no_setting, sets, Reads, ended, no_machine, refuses, and_line, and_macro, begun, IsConfiguration}

slots_more : (ms : List ConfiguredMachine) (m : ConfiguredMachine) → HaveSlots ms → 0 < m.slots → HaveSlots (ms ++ m ∷ [])
slots_more [] m all one = (one, tt)
slots_more (k ∷ ms) m all one = (all.0, slots_more ms m all.1 one)

slots_before : (ms : List ConfiguredMachine) (m : ConfiguredMachine) → HaveSlots (ms ++ m ∷ []) → HaveSlots ms
slots_before [] m all = tt
slots_before (k ∷ ms) m all = (all.0, slots_before ms m all.1)

slots_last : (ms : List ConfiguredMachine) (m : ConfiguredMachine) → HaveSlots (ms ++ m ∷ []) → 0 < m.slots
slots_last [] m all = all.0
slots_last (k ∷ ms) m all = slots_last ms m all.1

-- ---- a machine

abbrev MachineKeeps : Result ConfiguredMachine ConfigError → Type 0
MachineKeeps (Ok m) = 0 < m.slots
MachineKeeps (Err f) = Unit {0}

machine_by_value : {X : Type 0} (n : ℕ) (f : X → ConfiguredMachine) → ((v : X) → 0 < (f v).slots) → (o : Option X) → MachineKeeps (with_value n f o)
machine_by_value n f keeps (Some v) = keeps v
machine_by_value n f keeps None = tt

positive : (k : ℕ) → nat_eq k 0 ≡ false → 0 < k
positive zero is = absurd (true≢false is)
positive (suc k) is = omega arith

by_slots : (others n : ℕ) (m : ConfiguredMachine) (o : Option ℕ) → MachineKeeps (slots_with others n m o)
by_slots others n m None = tt
by_slots others n m (Some k) = by (nat_eq k 0) (nat_lt MAX_SLOTS (others + k)) refl
  where
    by : (b c : Bool) → nat_eq k 0 ≡ b → MachineKeeps (cond b (Err (error.BadValue n)) (cond c (Err (error.Slots n)) (Ok (record m { slots = k }))))
    by true c is = tt
    by false true is = tt
    by false false is = positive k is

by_attribute : (n : ℕ) (x : List ℕ) (m : ConfiguredMachine) → 0 < m.slots → (o : Option Tree) → MachineKeeps (attribute_with x n m o)
by_attribute n x m some None = tt
by_attribute n x m some (Some e) = by (is_full x m.attrs)
  where
    by : (b : Bool) → MachineKeeps (cond b (Err (error.Full n)) (Ok (record m { attrs = with_attribute x e m.attrs })))
    by true = tt
    by false = some

by_word : (w : SlotWord) (x : List ℕ) (n others : ℕ) (m : ConfiguredMachine) → 0 < m.slots → MachineKeeps (machine_with w x n others m)
by_word slot.Slots x n others m some = by_slots others n m (decimal x)
by_word slot.Cpus x n others m some = machine_by_value n (λ k. record m { cpus = k }) (λ k. some) (amount_in x)
by_word slot.Memory x n others m some = machine_by_value n (λ k. record m { memory = k }) (λ k. some) (amount_in x)
by_word slot.Disk x n others m some = machine_by_value n (λ k. record m { disk = k }) (λ k. some) (amount_in x)
by_word slot.Start x n others m some = machine_by_value n (λ e. record m { start = e }) (λ e. some) (expression_in x)
by_word slot.Rank x n others m some = machine_by_value n (λ e. record m { rank = e }) (λ e. some) (expression_in x)

-- ---- what is set so far

abbrev AllHave : SoFar → Type 0
AllHave s = HaveSlots (and_last s.config.machines s.last)

abbrev Keeps : Result SoFar ConfigError → Type 0
Keeps (Ok t) = AllHave t
Keeps (Err f) = Unit {0}

by_value : {X : Type 0} (n : ℕ) (f : X → SoFar) → ((v : X) → AllHave (f v)) → (o : Option X) → Keeps (with_value n f o)
by_value n f keeps (Some v) = keeps v
by_value n f keeps None = tt

seconds_machines : (i : Interval) (n : ℕ) (c : Configuration) → (with_seconds i n c).machines ≡ c.machines
seconds_machines interval.ClassadLifetime n c = refl
seconds_machines interval.UpdateInterval n c = refl
seconds_machines interval.NegotiatorInterval n c = refl
seconds_machines interval.AliveInterval n c = refl
seconds_machines interval.JobLease n c = refl
seconds_machines interval.ClaimLease n c = refl
seconds_machines interval.MatchTimeout n c = refl
seconds_machines interval.PeriodicExprInterval n c = refl
seconds_machines interval.DecayTick n c = refl
seconds_machines interval.MaxJobRetirementTime n c = refl
seconds_machines interval.MachineMaxVacateTime n c = refl

by_begin : (x : List ℕ) (n : ℕ) (c : Configuration) → HaveSlots c.machines → Keeps (begin_if x c (machine_check x n c.machines))
by_begin x n c all = by (is_unfit x c.machines) (nat_le MAX_MACHINES (length c.machines)) (nat_lt MAX_SLOTS (total_slots c.machines + 1))
  where
    by : (a b d : Bool) → Keeps (begin_if x c (cond a (Err (error.BadValue n)) (cond b (Err (error.Machines n)) (cond d (Err (error.Slots n)) (Ok tt)))))
    by true b d = tt
    by false true d = tt
    by false false true = tt
    by false false false = slots_more c.machines (plain_machine x) all (omega arith)

by_pool : (w : PoolWord) (x : List ℕ) (n : ℕ) (s : SoFar) → AllHave s → Keeps (pool_with w x n s)
by_pool pool.Spool x n s all = all
by_pool pool.Owner x n s all = by_value n (λ o. with_config (record s.config { owner = o }) s) (λ o. all) (owner_in x)
by_pool (pool.Seconds i) x n s all = by_value n (λ k. with_config (with_seconds i k s.config) s) (λ k. subst (λ (ms : List ConfiguredMachine). HaveSlots (and_last ms s.last)) (sym (seconds_machines i k s.config)) all) (seconds_in i x)
by_pool pool.PreemptionRequirements x n s all = by_value n (λ e. with_config (record s.config { preemption_requirements = e }) s) (λ e. all) (expression_in x)
by_pool pool.Machine x n s all = by_begin x n (whole s) all

by_machine : (s : SoFar) (q : Result ConfiguredMachine ConfigError) → HaveSlots s.config.machines → MachineKeeps q → Keeps (with_last s q)
by_machine s (Ok m) others keeps = slots_more s.config.machines m others keeps
by_machine s (Err f) others keeps = tt

by_last : (f : ConfiguredMachine → Result ConfiguredMachine ConfigError) (n : ℕ) (s : SoFar) → ((m : ConfiguredMachine) → 0 < m.slots → MachineKeeps (f m)) → (o : Option ConfiguredMachine) → HaveSlots (and_last s.config.machines o) → Keeps (last_with f n s o)
by_last f n s keeps (Some m) all = by_machine s (f m) (slots_before s.config.machines m all) (keeps m (slots_last s.config.machines m all))
by_last f n s keeps None all = tt

by_sets : (k : Sets) (x : List ℕ) (n : ℕ) (s : SoFar) → AllHave s → Keeps (set_to k x n s)
by_sets (of_pool w) x n s all = by_pool w x n s all
by_sets (ceiling u) x n s all = by_value n (ceiling_set u s) (λ k. all) (ceiling_in x)
by_sets (prio_factor u) x n s all = by_value n (factor_set u s) (λ k. all) (factor_in x)
by_sets (of_slots w) x n s all = by_last (machine_with w x n (total_slots s.config.machines)) n s (λ m some. by_word w x n (total_slots s.config.machines) m some) s.last all
by_sets (attribute a) x n s all = by_last (λ m. attribute_with a n m (expression_in x)) n s (λ m some. by_attribute n a m some (expression_in x)) s.last all

-- ---- lines

abbrev LineKeeps : Result LinesSoFar ConfigError → Type 0
LineKeeps (Ok t) = AllHave t.settings
LineKeeps (Err f) = Unit {0}

macro_keeps : (name x : List ℕ) (t : Macros) (q : Result SoFar ConfigError) → Keeps q → LineKeeps (and_macro name x t q)
macro_keeps name x t (Ok s) keeps = keeps
macro_keeps name x t (Err f) keeps = tt

value_keeps : (r : LinesSoFar) (n : ℕ) (k : Sets) (name value : List ℕ) (q : Result LinesSoFar ConfigError) → AllHave r.settings → TakesValue r n k name value q → LineKeeps q
value_keeps r n k name value _ all (no_expansion refused told) = tt
value_keeps r n k name value _ all (expanded {x = x} expands) = macro_keeps name x r.table (set_to k x n r.settings) (by_sets k x n r.settings all)

key_keeps : (r : LinesSoFar) (n : ℕ) (k : Sets) (name value : List ℕ) (q : Result LinesSoFar ConfigError) → AllHave r.settings → TakesKey r n k name value q → LineKeeps q
key_keeps r n k name value _ all (homeless home) = tt
key_keeps r n k name value q all (takes home taken) = value_keeps r n k name value q all taken

setting_keeps : (r : LinesSoFar) (n : ℕ) (name value : List ℕ) (q : Result LinesSoFar ConfigError) → AllHave r.settings → TakesSetting r n name value q → LineKeeps q
setting_keeps r n name value _ all (unknown none) = tt
setting_keeps r n name value q all (known {k = k} named taken) = key_keeps r n k name value q all taken

line_keeps : (r : LinesSoFar) (l : Line) (q : Result LinesSoFar ConfigError) → AllHave r.settings → TakesLine r l q → LineKeeps q
line_keeps r l _ all (no_setting is) = tt
line_keeps r l q all (sets {name = name} {value = value} is taken) = setting_keeps r l.number name value q all taken

abbrev ReadHas : ReadResult → Type 0
ReadHas (Ok c) = HaveSlots c.machines
ReadHas (Err f) = Unit {0}

reads_have : (ls : List Line) (r : LinesSoFar) (q : ReadResult) → AllHave r.settings → Reads ls r q → ReadHas q
reads_have _ r _ all (ended is) = all
reads_have _ r _ all (no_machine is) = tt
reads_have _ r _ all (refuses a) = tt
reads_have _ r q all (and_line {s = s} {l = l} {ls = ls} a more) = reads_have ls s q (line_keeps r l (Ok s) all a) more

each_has_slots : (text : List ℕ) (c : Configuration) → IsConfiguration text (Ok c) → HaveSlots c.machines
each_has_slots text c is = reads_have (logical_lines text) begun (Ok c) tt is

pub read_has_slots : (text : List ℕ) (r : Result Config ConfigError) → UnlessMemory (IsConfiguration text) (outcome r) → IfOk r (λ c. HaveSlots (configuration_of c).machines)
read_has_slots text (Ok c) is = each_has_slots text (configuration_of c) is
read_has_slots text (Err f) is = tt

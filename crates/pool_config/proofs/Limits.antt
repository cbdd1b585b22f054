-- What is read is within the limits.
use Rattle.std.proofs.Common.{◌≡◌, ◌<◌, ◌≤◌, ◌+◌, ℕ, zero, suc, Bool, true, false, true≢false, cond, not, List, [], ◌∷◌, ◌++◌, length, get_or, map, length-append, Option, Some, None, is_some, Result, Ok, Err, IfOk, All, refl, ap, sym, subst, arith}
use Rattle.std.specs.Prelude.{nat_le, nat_lt, nat_eq, ◌&&◌}
use Rattle.std.proofs.lemmas.List.Elements.{All-cons, All-head, All-tail, All-nil}
use Rattle.ad_value.specs.Names.{same_name}
use Rattle.ad_tree.specs.Ad.{Attributes, lookup, with_attribute}
use Rattle.ad_tree.specs.Tree.{Tree}
use Rattle.line_text.specs.declared.logical.Line.{Line}
use Rattle.line_text.specs.Lines.{logical_lines}
use Rattle.line_text.specs.Macros.{Macros}
use Rattle.pool_config.specs.declared.config.Config.{Config}
use Rattle.pool_config.specs.declared.config.Machine.{Machine}
use Rattle.pool_config.specs.declared.config.TheConstants.{MAX_MACHINES, MAX_SLOTS, MAX_MACHINE_ATTRIBUTES}
use Rattle.pool_config.specs.declared.error.ConfigError.{ConfigError}
use Rattle.pool_config.specs.declared.error.ConfigError.TheVariants as error
use Rattle.pool_config.specs.declared.setting_word.PoolWord.{PoolWord}
use Rattle.pool_config.specs.declared.setting_word.PoolWord.TheVariants as pool
use Rattle.pool_config.specs.declared.setting_word.SlotWord.{SlotWord}
use Rattle.pool_config.specs.declared.setting_word.SlotWord.TheVariants as slot
use Rattle.pool_config.specs.declared.setting_word.Interval.{Interval}
use Rattle.pool_config.specs.declared.setting_word.Interval.TheVariants as interval
use Rattle.pool_config.specs.Configuration.{Configuration, ConfiguredMachine, configuration_of, machine_of, outcome, HasRoom, IsWithinLimits, total_slots, plain_machine}
use Rattle.pool_config.specs.Errors.{UnlessMemory}
use Rattle.pool_config.specs.Keys.{Sets, of_pool, ceiling, prio_factor, of_slots, attribute}
use Rattle.pool_config.specs.Names.{slot_attributes}
use Rattle.pool_config.specs.Slots.{pool_attributes, slot_ad}
use Rattle.pool_config.proofs.Own.{Own, Free, own_after, free_sets, ad_is}
use Rattle.std.specs.List.{list_any}
use Rattle.pool_config.specs.Settings.{SoFar, and_last, set_to, pool_with, whole, with_value, with_seconds, with_config, seconds_in, owner_in, expression_in, machine_check, begin_if, last_with, with_last, machine_with, slots_with, attribute_with, amount_in, is_full, ceiling_in, factor_in, ceiling_set, factor_set, is_unfit, spool_with}
use Rattle.submit_lines.specs.Numbers.{decimal}
use Rattle.pool_config.specs.Lines.{LinesSoFar, ReadResult, TakesValue, no_expansion, expanded, TakesKey, homeless, takes, TakesSetting, unknown, known, TakesLine, no_setting, sets, Reads, ended, no_machine, refuses, and_line, and_macro, begun, IsConfiguration}

-- room, and no attribute that is the pool's or is there twice
abbrev pub IsSound : Attributes → Type 0
IsSound ad = (length ad ≤ MAX_MACHINE_ATTRIBUTES) × Own ad

pub HaveRoom : List ConfiguredMachine → Type 0
HaveRoom [] = Unit {0}
HaveRoom (m ∷ ms) = IsSound m.attrs × HaveRoom ms

-- machines, and one behind them that may change
record Fits (ms : List ConfiguredMachine) : Type 0 where
  machines : length ms ≤ MAX_MACHINES
  slots : total_slots ms ≤ MAX_SLOTS
  room : HaveRoom ms

record LastFits (others : ℕ) (m : ConfiguredMachine) : Type 0 where
  slots : others + m.slots ≤ MAX_SLOTS
  room : IsSound m.attrs

-- ---- lists with one more

total_more : (ms : List ConfiguredMachine) (m : ConfiguredMachine) → total_slots (ms ++ m ∷ []) ≡ total_slots ms + m.slots
total_more [] m = omega arith
total_more (k ∷ ms) m =
    let rest = total_more ms m in
    omega (arith, rest)

room_more : (ms : List ConfiguredMachine) (m : ConfiguredMachine) → HaveRoom ms → IsSound m.attrs → HaveRoom (ms ++ m ∷ [])
unfolding HaveRoom
room_more [] m all one = (one, tt)
room_more (k ∷ ms) m all one = (all.0, room_more ms m all.1 one)

room_before : (ms : List ConfiguredMachine) (m : ConfiguredMachine) → HaveRoom (ms ++ m ∷ []) → HaveRoom ms
unfolding HaveRoom
room_before [] m all = tt
room_before (k ∷ ms) m all = (all.0, room_before ms m all.1)

room_last : (ms : List ConfiguredMachine) (m : ConfiguredMachine) → HaveRoom (ms ++ m ∷ []) → IsSound m.attrs
unfolding HaveRoom
room_last [] m all = all.0
room_last (k ∷ ms) m all = room_last ms m all.1

fits_with : (ms : List ConfiguredMachine) (m k : ConfiguredMachine) → Fits (ms ++ m ∷ []) → LastFits (total_slots ms) k → Fits (ms ++ k ∷ [])
fits_with ms m k f last = record {
  machines = omega (arith, f.machines, length-append ms (m ∷ []), length-append ms (k ∷ []));
  slots = omega (arith, last.slots, total_more ms k);
  room = room_more ms k (room_before ms m f.room) last.room;
}

fits_last : (ms : List ConfiguredMachine) (m : ConfiguredMachine) → Fits (ms ++ m ∷ []) → LastFits (total_slots ms) m
fits_last ms m f = record {
  slots = omega (arith, f.slots, total_more ms m);
  room = room_last ms m f.room;
}

-- ---- an attribute more

size_after : (x : List ℕ) (e : Tree) (ad : Attributes) → length (with_attribute x e ad) ≤ length ad + 1
size_after x e [] = omega arith
size_after x e (a ∷ ad) = by (same_name x a.0) (size_after x e ad)
  where
    by : (b : Bool) → length (with_attribute x e ad) ≤ length ad + 1 → length (cond b ((a.0, e) ∷ ad) (a ∷ with_attribute x e ad)) ≤ length (a ∷ ad) + 1
    by true rest = omega arith
    by false rest = omega (arith, rest)

same_by : (x : List ℕ) (e : Tree) (a : List ℕ × Tree) (ad : Attributes) (b : Bool) → is_some (cond b (Some a.1) (lookup x ad)) ≡ true → (is_some (lookup x ad) ≡ true → length (with_attribute x e ad) ≡ length ad) → length (cond b ((a.0, e) ∷ ad) (a ∷ with_attribute x e ad)) ≡ length (a ∷ ad)
same_by x e a ad true some rest = refl
same_by x e a ad false some rest = ap suc (rest some)

size_same : (x : List ℕ) (e : Tree) (ad : Attributes) → is_some (lookup x ad) ≡ true → length (with_attribute x e ad) ≡ length ad
size_same x e [] some = absurd (true≢false (sym some))
size_same x e (a ∷ ad) some = same_by x e a ad (same_name x a.0) some (size_same x e ad)

room_by : (x : List ℕ) (e : Tree) (ad : Attributes) → length ad ≤ MAX_MACHINE_ATTRIBUTES → (b : Bool) → nat_le MAX_MACHINE_ATTRIBUTES (length ad) ≡ b → (c : Bool) → is_some (lookup x ad) ≡ c → b && not c ≡ false → length (with_attribute x e ad) ≤ MAX_MACHINE_ATTRIBUTES
room_by x e ad few false most c some full = grind (arith, size_after x e ad, most)
room_by x e ad few true most true some full = grind (arith, size_same x e ad some, few)
room_by x e ad few true most false some full = absurd (true≢false full)

room_after : (x : List ℕ) (e : Tree) (ad : Attributes) → length ad ≤ MAX_MACHINE_ATTRIBUTES → is_full x ad ≡ false → length (with_attribute x e ad) ≤ MAX_MACHINE_ATTRIBUTES
room_after x e ad few full = room_by x e ad few (nat_le MAX_MACHINE_ATTRIBUTES (length ad)) refl (is_some (lookup x ad)) refl full

-- ---- a machine

MachineKeeps : ℕ → Result ConfiguredMachine ConfigError → Type 0
MachineKeeps others (Ok m) = LastFits others m
MachineKeeps others (Err f) = Unit {0}

machine_by_value : {X : Type 0} (others n : ℕ) (f : X → ConfiguredMachine) → ((v : X) → LastFits others (f v)) → (o : Option X) → MachineKeeps others (with_value n f o)
unfolding MachineKeeps
machine_by_value others n f keeps (Some v) = keeps v
machine_by_value others n f keeps None = tt

by_slots : (others n : ℕ) (m : ConfiguredMachine) → LastFits others m → (o : Option ℕ) → MachineKeeps others (slots_with others n m o)
unfolding MachineKeeps
by_slots others n m fits None = tt
by_slots others n m fits (Some k) = by (nat_eq k 0) (nat_lt MAX_SLOTS (others + k)) refl
  where
    by : (b c : Bool) → nat_lt MAX_SLOTS (others + k) ≡ c → MachineKeeps others (cond b (Err (error.BadValue n)) (cond c (Err (error.Slots n)) (Ok (record m { slots = k }))))
    by true c is = tt
    by false true is = tt
    by false false is = record { slots = grind (arith, is); room = fits.room }

by_attribute : (others n : ℕ) (x : List ℕ) (m : ConfiguredMachine) → list_any (same_name x) slot_attributes ≡ false → LastFits others m → (o : Option Tree) → MachineKeeps others (attribute_with x n m o)
unfolding MachineKeeps
by_attribute others n x m free fits None = tt
by_attribute others n x m free fits (Some e) = by (is_full x m.attrs) refl
  where
    by : (b : Bool) → is_full x m.attrs ≡ b → MachineKeeps others (cond b (Err (error.Full n)) (Ok (record m { attrs = with_attribute x e m.attrs })))
    by true is = tt
    by false is = record { slots = fits.slots; room = (room_after x e m.attrs fits.room.0 is, own_after x e m.attrs free fits.room.1) }

same_slots : (others : ℕ) (m k : ConfiguredMachine) → LastFits others m → k.slots ≡ m.slots → k.attrs ≡ m.attrs → LastFits others k
same_slots others m k fits slots attrs = record {
  slots = omega (arith, fits.slots, slots);
  room = subst IsSound (sym attrs) fits.room;
}

by_word : (w : SlotWord) (x : List ℕ) (n others : ℕ) (m : ConfiguredMachine) → LastFits others m → MachineKeeps others (machine_with w x n others m)
by_word slot.Slots x n others m fits = by_slots others n m fits (decimal x)
by_word slot.Cpus x n others m fits = machine_by_value others n (λ k. record m { cpus = k }) (λ k. same_slots others m (record m { cpus = k }) fits refl refl) (amount_in x)
by_word slot.Memory x n others m fits = machine_by_value others n (λ k. record m { memory = k }) (λ k. same_slots others m (record m { memory = k }) fits refl refl) (amount_in x)
by_word slot.Disk x n others m fits = machine_by_value others n (λ k. record m { disk = k }) (λ k. same_slots others m (record m { disk = k }) fits refl refl) (amount_in x)
by_word slot.Start x n others m fits = machine_by_value others n (λ e. record m { start = e }) (λ e. same_slots others m (record m { start = e }) fits refl refl) (expression_in x)
by_word slot.Rank x n others m fits = machine_by_value others n (λ e. record m { rank = e }) (λ e. same_slots others m (record m { rank = e }) fits refl refl) (expression_in x)

-- ---- what is set so far

abbrev AllFit : SoFar → Type 0
AllFit s = Fits (and_last s.config.machines s.last)

Keeps : Result SoFar ConfigError → Type 0
Keeps (Ok t) = AllFit t
Keeps (Err f) = Unit {0}

by_value : {X : Type 0} (n : ℕ) (f : X → SoFar) → ((v : X) → AllFit (f v)) → (o : Option X) → Keeps (with_value n f o)
unfolding Keeps
by_value n f keeps (Some v) = keeps v
by_value n f keeps None = tt

-- what is set beside the machines
same_machines : (s t : SoFar) → AllFit s → t.config.machines ≡ s.config.machines → t.last ≡ s.last → AllFit t
same_machines s t fits ms last = subst Fits (λ i. and_last (sym ms i) (sym last i)) fits

seconds_machines : (i : Interval) (n : ℕ) (c : Configuration) → (with_seconds i n c).machines ≡ c.machines
seconds_machines interval.ClassadLifetime n c = refl
seconds_machines interval.UpdateInterval n c = refl
seconds_machines interval.NegotiatorInterval n c = refl
seconds_machines interval.AliveInterval n c = refl
seconds_machines interval.JobLease n c = refl
seconds_machines interval.ClaimLease n c = refl
seconds_machines interval.MatchTimeout n c = refl
seconds_machines interval.PeriodicExprInterval n c = refl
seconds_machines interval.DecayTick n c = refl
seconds_machines interval.MaxJobRetirementTime n c = refl
seconds_machines interval.MachineMaxVacateTime n c = refl

abbrev none_attributes : Attributes
none_attributes = []

none_room : length none_attributes ≤ MAX_MACHINE_ATTRIBUTES
none_room = omega arith

none_own : Own []
unfolding Own
none_own = tt

begin_fits : (x : List ℕ) (ms : List ConfiguredMachine) → Fits ms → nat_le MAX_MACHINES (length ms) ≡ false → nat_lt MAX_SLOTS (total_slots ms + 1) ≡ false → Fits (ms ++ plain_machine x ∷ [])
begin_fits x ms f few slots = record {
  machines = grind (arith, few, length-append ms (plain_machine x ∷ []));
  slots = grind (arith, slots, total_more ms (plain_machine x));
  room = room_more ms (plain_machine x) f.room (none_room, none_own);
}

by_begin : (x : List ℕ) (n : ℕ) (c : Configuration) → Fits c.machines → Keeps (begin_if x c (machine_check x n c.machines))
unfolding Keeps
by_begin x n c f = by (is_unfit x c.machines) (nat_le MAX_MACHINES (length c.machines)) refl (nat_lt MAX_SLOTS (total_slots c.machines + 1)) refl
  where
    by : (a b : Bool) → nat_le MAX_MACHINES (length c.machines) ≡ b → (d : Bool) → nat_lt MAX_SLOTS (total_slots c.machines + 1) ≡ d → Keeps (begin_if x c (cond a (Err (error.BadValue n)) (cond b (Err (error.Machines n)) (cond d (Err (error.Slots n)) (Ok tt)))))
    by true b few d slots = tt
    by false true few d slots = tt
    by false false few true slots = tt
    by false false few false slots = begin_fits x c.machines f few slots

by_pool : (w : PoolWord) (x : List ℕ) (n : ℕ) (s : SoFar) → AllFit s → Keeps (pool_with w x n s)
unfolding Keeps
by_pool pool.Spool x n s f = same_machines s (spool_with x s) f refl refl
by_pool pool.Owner x n s f = by_value n (λ o. with_config (record s.config { owner = o }) s) (λ o. same_machines s (with_config (record s.config { owner = o }) s) f refl refl) (owner_in x)
by_pool (pool.Seconds i) x n s f = by_value n (λ k. with_config (with_seconds i k s.config) s) (λ k. same_machines s (with_config (with_seconds i k s.config) s) f (seconds_machines i k s.config) refl) (seconds_in i x)
by_pool pool.PreemptionRequirements x n s f = by_value n (λ e. with_config (record s.config { preemption_requirements = e }) s) (λ e. same_machines s (with_config (record s.config { preemption_requirements = e }) s) f refl refl) (expression_in x)
by_pool pool.Machine x n s f = by_begin x n (whole s) f

by_machine : (s : SoFar) (q : Result ConfiguredMachine ConfigError) → ((k : ConfiguredMachine) → LastFits (total_slots s.config.machines) k → Fits (s.config.machines ++ k ∷ [])) → MachineKeeps (total_slots s.config.machines) q → Keeps (with_last s q)
unfolding Keeps MachineKeeps
by_machine s (Ok m) fits keeps = fits m keeps
by_machine s (Err f) fits keeps = tt

by_last : (f : ConfiguredMachine → Result ConfiguredMachine ConfigError) (n : ℕ) (s : SoFar) → ((m : ConfiguredMachine) → LastFits (total_slots s.config.machines) m → MachineKeeps (total_slots s.config.machines) (f m)) → (o : Option ConfiguredMachine) → Fits (and_last s.config.machines o) → Keeps (last_with f n s o)
unfolding Keeps
by_last f n s keeps (Some m) fits =
    by_machine s (f m) (λ k. fits_with s.config.machines m k fits) (keeps m (fits_last s.config.machines m fits))
by_last f n s keeps None fits = tt

by_sets : (k : Sets) (x : List ℕ) (n : ℕ) (s : SoFar) → Free k → AllFit s → Keeps (set_to k x n s)
unfolding Free
by_sets (of_pool w) x n s free f = by_pool w x n s f
by_sets (ceiling u) x n s free f = by_value n (ceiling_set u s) (λ k. same_machines s (ceiling_set u s k) f refl refl) (ceiling_in x)
by_sets (prio_factor u) x n s free f = by_value n (factor_set u s) (λ k. same_machines s (factor_set u s k) f refl refl) (factor_in x)
by_sets (of_slots w) x n s free f = by_last (machine_with w x n (total_slots s.config.machines)) n s (λ m fits. by_word w x n (total_slots s.config.machines) m fits) s.last f
by_sets (attribute a) x n s free f = by_last (λ m. attribute_with a n m (expression_in x)) n s (λ m fits. by_attribute (total_slots s.config.machines) n a m free fits (expression_in x)) s.last f

-- ---- lines

LineKeeps : Result LinesSoFar ConfigError → Type 0
LineKeeps (Ok t) = AllFit t.settings
LineKeeps (Err f) = Unit {0}

macro_keeps : (name x : List ℕ) (t : Macros) (q : Result SoFar ConfigError) → Keeps q → LineKeeps (and_macro name x t q)
unfolding LineKeeps Keeps
macro_keeps name x t (Ok s) keeps = keeps
macro_keeps name x t (Err f) keeps = tt

value_keeps : (r : LinesSoFar) (n : ℕ) (k : Sets) (name value : List ℕ) (q : Result LinesSoFar ConfigError) → Free k → AllFit r.settings → TakesValue r n k name value q → LineKeeps q
unfolding LineKeeps
value_keeps r n k name value _ free f (no_expansion refused told) = tt
value_keeps r n k name value _ free f (expanded {x = x} expands) = macro_keeps name x r.table (set_to k x n r.settings) (by_sets k x n r.settings free f)

key_keeps : (r : LinesSoFar) (n : ℕ) (k : Sets) (name value : List ℕ) (q : Result LinesSoFar ConfigError) → Free k → AllFit r.settings → TakesKey r n k name value q → LineKeeps q
unfolding LineKeeps
key_keeps r n k name value _ free f (homeless home) = tt
key_keeps r n k name value q free f (takes home taken) = value_keeps r n k name value q free f taken

setting_keeps : (r : LinesSoFar) (n : ℕ) (name value : List ℕ) (q : Result LinesSoFar ConfigError) → AllFit r.settings → TakesSetting r n name value q → LineKeeps q
unfolding LineKeeps
setting_keeps r n name value _ f (unknown none) = tt
setting_keeps r n name value q f (known {k = k} named taken) = key_keeps r n k name value q (free_sets name k named) f taken

line_keeps : (r : LinesSoFar) (l : Line) (q : Result LinesSoFar ConfigError) → AllFit r.settings → TakesLine r l q → LineKeeps q
unfolding LineKeeps
line_keeps r l _ f (no_setting is) = tt
line_keeps r l q f (sets {name = name} {value = value} is taken) = setting_keeps r l.number name value q f taken

all_room : (ms : List ConfiguredMachine) → HaveRoom ms → All HasRoom ms
unfolding HaveRoom
all_room [] h = All-nil HasRoom
all_room (m ∷ ms) h = All-cons HasRoom m ms h.0.0 (all_room ms h.1)

abbrev pub HasOwn : ConfiguredMachine → Type 0
HasOwn m = (k : ℕ) → slot_ad m k ≡ pool_attributes m k ++ m.attrs

all_own : (ms : List ConfiguredMachine) → HaveRoom ms → All HasOwn ms
unfolding HaveRoom
all_own [] h = All-nil HasOwn
all_own (m ∷ ms) h = All-cons HasOwn m ms (λ k. ad_is m k h.0.1) (all_own ms h.1)

pub ReadWithin : ReadResult → Type 0
ReadWithin (Ok c) = IsWithinLimits c × All HasOwn c.machines
ReadWithin (Err f) = Unit {0}

whole_within : (r : LinesSoFar) (m : ConfiguredMachine) → r.settings.last ≡ Some m → AllFit r.settings → IsWithinLimits (whole r.settings)
whole_within r m is f = record {
  some = subst (λ o. 0 < length (and_last r.settings.config.machines o)) (sym is) (omega (arith, length-append r.settings.config.machines (m ∷ [])));
  machines = f.machines;
  slots = f.slots;
  room = all_room (and_last r.settings.config.machines r.settings.last) f.room;
}

reads_within : (ls : List Line) (r : LinesSoFar) (q : ReadResult) → AllFit r.settings → Reads ls r q → ReadWithin q
unfolding ReadWithin LineKeeps
reads_within _ r _ f (ended {m = m} is) = (whole_within r m is f, all_own (and_last r.settings.config.machines r.settings.last) f.room)
reads_within _ r _ f (no_machine is) = tt
reads_within _ r _ f (refuses a) = tt
reads_within _ r q f (and_line {s = s} {l = l} {ls = ls} a more) = reads_within ls s q (line_keeps r l (Ok s) f a) more

begun_fits : AllFit begun.settings
unfolding HaveRoom
begun_fits = record { machines = omega arith; slots = omega arith; room = tt }

pub within : (text : List ℕ) (q : ReadResult) → IsConfiguration text q → ReadWithin q
within text q is = reads_within (logical_lines text) begun q begun_fits is

pub read_within : (text : List ℕ) (r : Result Config ConfigError) → UnlessMemory (IsConfiguration text) (outcome r) → IfOk r (λ c. IsWithinLimits (configuration_of c))
unfolding ReadWithin
read_within text (Ok c) is = (within text (Ok (configuration_of c)) is).0
read_within text (Err f) is = tt

pub read_own : (text : List ℕ) (c : Configuration) → IsConfiguration text (Ok c) → All HasOwn c.machines
unfolding ReadWithin
read_own text c is = (within text (Ok c) is).1

-- ---- machines as the program keeps them

pub room_at : (ms : List Machine) (i : ℕ) (d : Machine) → All HasRoom (map machine_of ms) → i < length ms → HasRoom (machine_of (get_or ms i d))
room_at [] i d all inside = absurd (omega arith)
room_at (m ∷ ms) zero d all inside = All-head HasRoom (machine_of m) (map machine_of ms) all
room_at (m ∷ ms) (suc i) d all inside = room_at ms i d (All-tail HasRoom (machine_of m) (map machine_of ms) all) (omega (arith, inside))

pub slots_at : (ms : List Machine) (i : ℕ) (d : Machine) → total_slots (map machine_of ms) ≤ MAX_SLOTS → i < length ms → (get_or ms i d).slots ≤ MAX_SLOTS
slots_at ms i d few inside = omega (arith, few, among ms i d inside)
  where
    among : (ms : List Machine) (i : ℕ) (d : Machine) → i < length ms → (get_or ms i d).slots ≤ total_slots (map machine_of ms)
    among [] i d inside = absurd (omega arith)
    among (m ∷ ms) zero d inside = omega arith
    among (m ∷ ms) (suc i) d inside = omega (arith, among ms i d (omega (arith, inside)))

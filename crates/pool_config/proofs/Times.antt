-- The last line that sets a time counts.
use Rattle.std.proofs.Common.{◌≡◌, ◌≢◌, ◌⊎◌, inl, inr, ℕ, List, [], ◌∷◌, Option, Some, None, Result, Ok, Err, refl, ap, sym, ◌∙◌, subst}
use Rattle.line_text.specs.declared.logical.Line.{Line}
use Rattle.line_text.specs.Expansion.{IsExpansion}
use Rattle.line_text.specs.Lines.{logical_lines}
use Rattle.line_text.specs.Macros.{Macros}
use Rattle.pool_config.specs.declared.error.ConfigError.{ConfigError}
use Rattle.pool_config.specs.declared.setting_word.Interval.{Interval}
use Rattle.pool_config.specs.declared.setting_word.Interval.TheVariants as interval
use Rattle.pool_config.specs.declared.setting_word.PoolWord.{PoolWord}
use Rattle.pool_config.specs.declared.setting_word.PoolWord.TheVariants as pool
use Rattle.ad_tree.specs.Tree.{Tree}
use Rattle.pool_config.specs.Configuration.{Configuration, ConfiguredMachine, total_slots, plain_configuration}
use Rattle.pool_config.specs.Keys.{Sets, of_pool, ceiling, prio_factor, of_slots, attribute}
use Rattle.pool_config.specs.Names.{name_sets, setting_in}
use Rattle.pool_config.specs.Settings.{SoFar, and_last, with_machines, with_user, set_to, pool_with, whole, with_value, with_seconds, with_config, seconds_in, owner_in, expression_in, machine_check, begin_if, last_with, with_last, machine_with, attribute_with, ceiling_in, factor_in, ceiling_set, factor_set}
use Rattle.pool_config.specs.Lines.{LinesSoFar, ReadResult, TakesValue, no_expansion, expanded, TakesKey, homeless, takes, TakesSetting, unknown, known, TakesLine, no_setting, sets, Reads, ended, no_machine, refuses, and_line, and_macro, begun, IsConfiguration}
use Rattle.pool_config.specs.Laws.{seconds_of, GivesName, CountsLast}

-- ---- one time among the others

pub last_time : (i : Interval) (n : ℕ) (c : Configuration) → seconds_of i (with_seconds i n c) ≡ n
last_time interval.ClassadLifetime n c = refl
last_time interval.UpdateInterval n c = refl
last_time interval.NegotiatorInterval n c = refl
last_time interval.AliveInterval n c = refl
last_time interval.JobLease n c = refl
last_time interval.ClaimLease n c = refl
last_time interval.MatchTimeout n c = refl
last_time interval.PeriodicExprInterval n c = refl
last_time interval.DecayTick n c = refl
last_time interval.MaxJobRetirementTime n c = refl
last_time interval.MachineMaxVacateTime n c = refl

-- they are one time, or setting the one leaves the other
other_time : (i j : Interval) → (j ≡ i) ⊎ ((j ≢ i) × ((n : ℕ) (c : Configuration) → seconds_of i (with_seconds j n c) ≡ seconds_of i c))
other_time interval.ClassadLifetime interval.ClassadLifetime = inl refl
other_time interval.UpdateInterval interval.UpdateInterval = inl refl
other_time interval.NegotiatorInterval interval.NegotiatorInterval = inl refl
other_time interval.AliveInterval interval.AliveInterval = inl refl
other_time interval.JobLease interval.JobLease = inl refl
other_time interval.ClaimLease interval.ClaimLease = inl refl
other_time interval.MatchTimeout interval.MatchTimeout = inl refl
other_time interval.PeriodicExprInterval interval.PeriodicExprInterval = inl refl
other_time interval.DecayTick interval.DecayTick = inl refl
other_time interval.MaxJobRetirementTime interval.MaxJobRetirementTime = inl refl
other_time interval.MachineMaxVacateTime interval.MachineMaxVacateTime = inl refl
other_time i j = inr ((λ e. cc), (λ n c. refl))

-- ---- one value

abbrev pub time_of : Interval → SoFar → ℕ
time_of i s = seconds_of i s.config

-- what comes of a value leaves the time as it was
pub Leaves : Interval → SoFar → Result SoFar ConfigError → Type 0
Leaves i s (Ok t) = time_of i t ≡ time_of i s
Leaves i s (Err f) = Unit {0}

-- or the value is that of the time
pub Gives : Interval → List ℕ → Result SoFar ConfigError → Type 0
Gives i x (Ok t) = seconds_in i x ≡ Some (time_of i t)
Gives i x (Err f) = Unit {0}

abbrev pub SetsOrLeaves : Interval → Sets → List ℕ → SoFar → Result SoFar ConfigError → Type 0
SetsOrLeaves i k x s q = ((k ≡ of_pool (pool.Seconds i)) × Gives i x q) ⊎ ((k ≢ of_pool (pool.Seconds i)) × Leaves i s q)

by_value : {X : Type 0} (i : Interval) (n : ℕ) (s : SoFar) (f : X → SoFar) → ((v : X) → time_of i (f v) ≡ time_of i s) → (o : Option X) → Leaves i s (with_value n f o)
unfolding Leaves
by_value i n s f same (Some v) = same v
by_value i n s f same None = tt

by_time : (i : Interval) (n : ℕ) (x : List ℕ) (s : SoFar) (o : Option ℕ) → seconds_in i x ≡ o → Gives i x (with_value n (λ k. with_config (with_seconds i k s.config) s) o)
unfolding Gives
by_time i n x s (Some k) is = is ∙ ap Some (sym (last_time i k s.config))
by_time i n x s None is = tt

interval_in : Sets → Interval → Interval
interval_in (of_pool (pool.Seconds j)) d = j
interval_in k d = d

same_interval : (i j : Interval) → of_pool (pool.Seconds j) ≡ of_pool (pool.Seconds i) → j ≡ i
unfolding interval_in
same_interval i j e = ap (λ k. interval_in k j) e

by_interval : (i j : Interval) (n : ℕ) (x : List ℕ) (s : SoFar) → SetsOrLeaves i (of_pool (pool.Seconds j)) x s (pool_with (pool.Seconds j) x n s)
by_interval i j n x s = by (other_time i j)
  where
    by : (j ≡ i) ⊎ ((j ≢ i) × ((m : ℕ) (c : Configuration) → seconds_of i (with_seconds j m c) ≡ seconds_of i c)) → SetsOrLeaves i (of_pool (pool.Seconds j)) x s (pool_with (pool.Seconds j) x n s)
    by (inl same) = subst (λ j. SetsOrLeaves i (of_pool (pool.Seconds j)) x s (pool_with (pool.Seconds j) x n s)) (sym same) (inl (refl, by_time i n x s (seconds_in i x) refl))
    by (inr other) = inr ((λ e. other.0 (same_interval i j e)), by_value i n s (λ k. with_config (with_seconds j k s.config) s) (λ k. other.1 k s.config) (seconds_in j x))

-- a change of the machines leaves the times
with_machine_time : (i : Interval) (ms : List ConfiguredMachine) (c : Configuration) → seconds_of i (with_machines ms c) ≡ seconds_of i c
with_machine_time interval.ClassadLifetime ms c = refl
with_machine_time interval.UpdateInterval ms c = refl
with_machine_time interval.NegotiatorInterval ms c = refl
with_machine_time interval.AliveInterval ms c = refl
with_machine_time interval.JobLease ms c = refl
with_machine_time interval.ClaimLease ms c = refl
with_machine_time interval.MatchTimeout ms c = refl
with_machine_time interval.PeriodicExprInterval ms c = refl
with_machine_time interval.DecayTick ms c = refl
with_machine_time interval.MaxJobRetirementTime ms c = refl
with_machine_time interval.MachineMaxVacateTime ms c = refl

by_check : (i : Interval) (x : List ℕ) (s : SoFar) (q : Result (Unit {0}) ConfigError) → Leaves i s (begin_if x (whole s) q)
unfolding Leaves
by_check i x s (Ok u) = with_machine_time i (and_last s.config.machines s.last) s.config
by_check i x s (Err f) = tt

spool : (i : Interval) (x : Option (List ℕ)) (c : Configuration) → seconds_of i (record c { spool = x }) ≡ seconds_of i c
spool interval.ClassadLifetime x c = refl
spool interval.UpdateInterval x c = refl
spool interval.NegotiatorInterval x c = refl
spool interval.AliveInterval x c = refl
spool interval.JobLease x c = refl
spool interval.ClaimLease x c = refl
spool interval.MatchTimeout x c = refl
spool interval.PeriodicExprInterval x c = refl
spool interval.DecayTick x c = refl
spool interval.MaxJobRetirementTime x c = refl
spool interval.MachineMaxVacateTime x c = refl

owner : (i : Interval) (x : List ℕ) (c : Configuration) → seconds_of i (record c { owner = x }) ≡ seconds_of i c
owner interval.ClassadLifetime x c = refl
owner interval.UpdateInterval x c = refl
owner interval.NegotiatorInterval x c = refl
owner interval.AliveInterval x c = refl
owner interval.JobLease x c = refl
owner interval.ClaimLease x c = refl
owner interval.MatchTimeout x c = refl
owner interval.PeriodicExprInterval x c = refl
owner interval.DecayTick x c = refl
owner interval.MaxJobRetirementTime x c = refl
owner interval.MachineMaxVacateTime x c = refl

preemption : (i : Interval) (e : Tree) (c : Configuration) → seconds_of i (record c { preemption_requirements = e }) ≡ seconds_of i c
preemption interval.ClassadLifetime e c = refl
preemption interval.UpdateInterval e c = refl
preemption interval.NegotiatorInterval e c = refl
preemption interval.AliveInterval e c = refl
preemption interval.JobLease e c = refl
preemption interval.ClaimLease e c = refl
preemption interval.MatchTimeout e c = refl
preemption interval.PeriodicExprInterval e c = refl
preemption interval.DecayTick e c = refl
preemption interval.MaxJobRetirementTime e c = refl
preemption interval.MachineMaxVacateTime e c = refl

users : (i : Interval) (u : List ℕ) (k : ℕ) (c : Configuration) → seconds_of i (record c { ceiling = with_user u k c.ceiling }) ≡ seconds_of i c
users interval.ClassadLifetime u k c = refl
users interval.UpdateInterval u k c = refl
users interval.NegotiatorInterval u k c = refl
users interval.AliveInterval u k c = refl
users interval.JobLease u k c = refl
users interval.ClaimLease u k c = refl
users interval.MatchTimeout u k c = refl
users interval.PeriodicExprInterval u k c = refl
users interval.DecayTick u k c = refl
users interval.MaxJobRetirementTime u k c = refl
users interval.MachineMaxVacateTime u k c = refl

factors : (i : Interval) (u : List ℕ) (k : ℕ) (c : Configuration) → seconds_of i (record c { prio_factor = with_user u k c.prio_factor }) ≡ seconds_of i c
factors interval.ClassadLifetime u k c = refl
factors interval.UpdateInterval u k c = refl
factors interval.NegotiatorInterval u k c = refl
factors interval.AliveInterval u k c = refl
factors interval.JobLease u k c = refl
factors interval.ClaimLease u k c = refl
factors interval.MatchTimeout u k c = refl
factors interval.PeriodicExprInterval u k c = refl
factors interval.DecayTick u k c = refl
factors interval.MaxJobRetirementTime u k c = refl
factors interval.MachineMaxVacateTime u k c = refl

by_pool : (i : Interval) (w : PoolWord) (x : List ℕ) (n : ℕ) (s : SoFar) → SetsOrLeaves i (of_pool w) x s (pool_with w x n s)
unfolding Leaves
by_pool i pool.Spool x n s = inr ((λ e. cc), spool i (Some x) s.config)
by_pool i pool.Owner x n s = inr ((λ e. cc), by_value i n s (λ o. with_config (record s.config { owner = o }) s) (λ o. owner i o s.config) (owner_in x))
by_pool i (pool.Seconds j) x n s = by_interval i j n x s
by_pool i pool.PreemptionRequirements x n s = inr ((λ e. cc), by_value i n s (λ e. with_config (record s.config { preemption_requirements = e }) s) (λ e. preemption i e s.config) (expression_in x))
by_pool i pool.Machine x n s = inr ((λ e. cc), by_check i x s (machine_check x n (whole s).machines))

by_machine : (i : Interval) (s : SoFar) (q : Result ConfiguredMachine ConfigError) → Leaves i s (with_last s q)
unfolding Leaves
by_machine i s (Ok m) = refl
by_machine i s (Err f) = tt

by_last : (i : Interval) (f : ConfiguredMachine → Result ConfiguredMachine ConfigError) (n : ℕ) (s : SoFar) (o : Option ConfiguredMachine) → Leaves i s (last_with f n s o)
unfolding Leaves
by_last i f n s (Some m) = by_machine i s (f m)
by_last i f n s None = tt

pub by_sets : (i : Interval) (k : Sets) (x : List ℕ) (n : ℕ) (s : SoFar) → SetsOrLeaves i k x s (set_to k x n s)
by_sets i (of_pool w) x n s = by_pool i w x n s
by_sets i (ceiling u) x n s = inr ((λ e. cc), by_value i n s (ceiling_set u s) (λ k. users i u k s.config) (ceiling_in x))
by_sets i (prio_factor u) x n s = inr ((λ e. cc), by_value i n s (factor_set u s) (λ k. factors i u k s.config) (factor_in x))
by_sets i (of_slots w) x n s = inr ((λ e. cc), by_last i (machine_with w x n (total_slots s.config.machines)) n s s.last)
by_sets i (attribute a) x n s = inr ((λ e. cc), by_last i (λ m. attribute_with a n m (expression_in x)) n s s.last)

-- ---- one line

record GivesNow (l : Line) (i : Interval) (n : ℕ) : Type 0 where
  value : List ℕ
  gives : GivesName l (of_pool (pool.Seconds i)) value
  table : Macros
  expansion : List ℕ
  expanded : IsExpansion table value expansion
  is : seconds_in i expansion ≡ Some n

abbrev LineSets : Interval → LinesSoFar → Line → LinesSoFar → Type 0
LineSets i r l t =
    (((value : List ℕ) → GivesName l (of_pool (pool.Seconds i)) value → ⊥) × (time_of i t.settings ≡ time_of i r.settings))
    ⊎ GivesNow l i (time_of i t.settings)

LineGives : Interval → LinesSoFar → Line → Result LinesSoFar ConfigError → Type 0
LineGives i r l (Ok t) = LineSets i r l t
LineGives i r l (Err f) = Unit {0}

pair_in : Option (List ℕ × List ℕ) → List ℕ × List ℕ
pair_in None = ([], [])
pair_in (Some p) = p

set_in : Option Sets → Sets → Sets
set_in None d = d
set_in (Some k) d = k

gives_one : (l : Line) (name value : List ℕ) (k m : Sets) → setting_in l.text ≡ Some (name, value) → name_sets name ≡ Some k → (v : List ℕ) → GivesName l m v → k ≡ m
unfolding pair_in set_in
gives_one l name value k m is named v g =
    let same : g.name ≡ name = ap (λ o. (pair_in o).0) (sym g.setting ∙ is) in
    ap (λ o. set_in o k) (sym named ∙ ap name_sets (sym same) ∙ g.sets)

and_macro_gives : (i : Interval) (r : LinesSoFar) (l : Line) (name value x : List ℕ) (k : Sets) → setting_in l.text ≡ Some (name, value) → name_sets name ≡ Some k → IsExpansion r.table value x → (q : Result SoFar ConfigError) → SetsOrLeaves i k x r.settings q → LineGives i r l (and_macro name x r.table q)
unfolding LineGives Leaves Gives
and_macro_gives i r l name value x k is named expands (Err f) by = tt
and_macro_gives i r l name value x k is named expands (Ok t) (inl by) = inr (record {
  value = value;
  gives = record { name = name; setting = is; sets = named ∙ ap Some by.0 };
  table = r.table;
  expansion = x;
  expanded = expands;
  is = by.1;
})
and_macro_gives i r l name value x k is named expands (Ok t) (inr by) =
    inl ((λ v g. by.0 (gives_one l name value k (of_pool (pool.Seconds i)) is named v g)), by.1)

value_gives : (i : Interval) (r : LinesSoFar) (l : Line) (name value : List ℕ) (k : Sets) (q : Result LinesSoFar ConfigError) → setting_in l.text ≡ Some (name, value) → name_sets name ≡ Some k → TakesValue r l.number k name value q → LineGives i r l q
unfolding LineGives
value_gives i r l name value k _ is named (no_expansion refused told) = tt
value_gives i r l name value k _ is named (expanded {x = x} expands) =
    and_macro_gives i r l name value x k is named expands (set_to k x l.number r.settings) (by_sets i k x l.number r.settings)

key_gives : (i : Interval) (r : LinesSoFar) (l : Line) (name value : List ℕ) (k : Sets) (q : Result LinesSoFar ConfigError) → setting_in l.text ≡ Some (name, value) → name_sets name ≡ Some k → TakesKey r l.number k name value q → LineGives i r l q
unfolding LineGives
key_gives i r l name value k _ is named (homeless home) = tt
key_gives i r l name value k q is named (takes home taken) = value_gives i r l name value k q is named taken

setting_gives : (i : Interval) (r : LinesSoFar) (l : Line) (name value : List ℕ) (q : Result LinesSoFar ConfigError) → setting_in l.text ≡ Some (name, value) → TakesSetting r l.number name value q → LineGives i r l q
unfolding LineGives
setting_gives i r l name value _ is (unknown none) = tt
setting_gives i r l name value q is (known {k = k} named taken) = key_gives i r l name value k q is named taken

line_gives : (i : Interval) (r : LinesSoFar) (l : Line) (q : Result LinesSoFar ConfigError) → TakesLine r l q → LineGives i r l q
unfolding LineGives
line_gives i r l _ (no_setting is) = tt
line_gives i r l q (sets {name = name} {value = value} is taken) = setting_gives i r l name value q is taken

-- ---- all lines

pub TimesOf : Interval → List Line → LinesSoFar → ReadResult → Type 0
TimesOf i ls r (Ok c) = CountsLast ls i (time_of i r.settings) (seconds_of i c)
TimesOf i ls r (Err f) = Unit {0}

counts_more : (i : Interval) (l : Line) (ls : List Line) (r s : LinesSoFar) (n : ℕ) → LineSets i r l s → CountsLast ls i (time_of i s.settings) n → CountsLast (l ∷ ls) i (time_of i r.settings) n
counts_more i l ls r s n line (inr last) = inr (record {
  before = l ∷ last.before;
  line = last.line;
  after = last.after;
  lines = ap (λ ls. l ∷ ls) last.lines;
  value = last.value;
  gives = last.gives;
  rest = last.rest;
  table = last.table;
  expansion = last.expansion;
  expanded = last.expanded;
  is = last.is;
})
counts_more i l ls r s n (inl line) (inl rest) = inl ((line.0, rest.0), rest.1 ∙ line.1)
counts_more i l ls r s n (inr now) (inl rest) = inr (record {
  before = [];
  line = l;
  after = ls;
  lines = refl;
  value = now.value;
  gives = now.gives;
  rest = rest.0;
  table = now.table;
  expansion = now.expansion;
  expanded = now.expanded;
  is = now.is ∙ ap Some (sym rest.1);
})

more_times : (i : Interval) (l : Line) (ls : List Line) (r s : LinesSoFar) (q : ReadResult) → LineSets i r l s → TimesOf i ls s q → TimesOf i (l ∷ ls) r q
unfolding TimesOf
more_times i l ls r s (Ok c) line rest = counts_more i l ls r s (seconds_of i c) line rest
more_times i l ls r s (Err f) line rest = tt

times_of : (i : Interval) (ls : List Line) (r : LinesSoFar) (q : ReadResult) → Reads ls r q → TimesOf i ls r q
unfolding TimesOf LineGives
times_of i _ r _ (ended is) = inl (tt, with_machine_time i (and_last r.settings.config.machines r.settings.last) r.settings.config)
times_of i _ r _ (no_machine is) = tt
times_of i _ r _ (refuses a) = tt
times_of i _ r q (and_line {s = s} {l = l} {ls = ls} a more) = more_times i l ls r s q (line_gives i r l (Ok s) a) (times_of i ls s q more)

pub last_counts : (text : List ℕ) (c : Configuration) (i : Interval) → IsConfiguration text (Ok c) → CountsLast (logical_lines text) i (seconds_of i plain_configuration) (seconds_of i c)
unfolding TimesOf
last_counts text c i is = times_of i (logical_lines text) begun (Ok c) is

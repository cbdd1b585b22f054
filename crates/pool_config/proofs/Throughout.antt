-- What no setting breaks holds of each configuration that is read.
use Rattle.std.proofs.Common.{◌≡◌, ◌≤◌, ℕ, Bool, true, false, cond, List, [], Option, Some, None, Result, Ok, Err, refl, ap, arith}
use Rattle.std.proofs.lemmas.Option.{cond_some}
use Rattle.std.specs.Prelude.{nat_le, ◌&&◌}
use Rattle.ad_token.specs.Names.{is_name}
use Rattle.ad_tree.specs.Tree.{Tree}
use Rattle.line_text.specs.declared.logical.Line.{Line}
use Rattle.line_text.specs.Lines.{logical_lines}
use Rattle.pool_config.specs.declared.error.ConfigError.{ConfigError}
use Rattle.pool_config.specs.declared.setting_word.Interval.{Interval}
use Rattle.pool_config.specs.declared.setting_word.PoolWord.{PoolWord}
use Rattle.pool_config.specs.declared.setting_word.PoolWord.TheVariants as pool
use Rattle.pool_config.specs.declared.value.TheConstants.{MAX_CEILING, MAX_FACTOR}
use Rattle.pool_config.specs.Configuration.{Configuration, ConfiguredMachine, total_slots, plain_configuration}
use Rattle.pool_config.specs.Keys.{Sets, of_pool, ceiling, prio_factor, of_slots, attribute}
use Rattle.pool_config.specs.Ranges.{IsBetween}
use Rattle.pool_config.specs.Settings.{SoFar, and_last, set_to, pool_with, whole, with_machines, with_user, with_value, with_seconds, with_config, in_bounds, seconds_in, owner_in, expression_in, machine_check, begin_if, last_with, with_last, machine_with, attribute_with, ceiling_in, factor_in, ceiling_set, factor_set}
use Rattle.pool_config.specs.Lines.{LinesSoFar, ReadResult, TakesValue, no_expansion, expanded, TakesKey, homeless, takes, TakesSetting, unknown, known, TakesLine, no_setting, sets, Reads, ended, no_machine, refuses, and_line, and_macro, begun, IsConfiguration}
use Rattle.submit_lines.specs.Numbers.{decimal}

-- a number that is within bounds
pub between : (least most n : ℕ) (o : Option ℕ) → in_bounds least most o ≡ Some n → IsBetween least most n
between least most n None is = absurd cc
between least most n (Some k) is = by (nat_le least k) refl (nat_le k most) refl is
  where
    by : (a : Bool) → nat_le least k ≡ a → (b : Bool) → nat_le k most ≡ b → cond (a && b) (Some k) None ≡ Some n → IsBetween least most n
    by true low true high is = (grind (arith, low, (cond_some true k n is).1), grind (arith, high, (cond_some true k n is).1))
    by true low false high is = absurd cc
    by false low b high is = absurd cc

-- each change of a configuration keeps it
pub record IsUnbroken (Q : Configuration → Type 0) : Type 0 where
  pub machines : (ms : List ConfiguredMachine) (c : Configuration) → Q c → Q (with_machines ms c)
  pub spool : (x : List ℕ) (c : Configuration) → Q c → Q (record c { spool = Some x })
  pub owner : (x : List ℕ) (c : Configuration) → is_name x ≡ true → Q c → Q (record c { owner = x })
  pub seconds : (i : Interval) (k : ℕ) (c : Configuration) → Q c → Q (with_seconds i k c)
  pub preemption : (e : Tree) (c : Configuration) → Q c → Q (record c { preemption_requirements = e })
  pub ceiling : (u : List ℕ) (k : ℕ) (c : Configuration) → k ≤ MAX_CEILING → Q c → Q (record c { ceiling = with_user u k c.ceiling })
  pub factor : (u : List ℕ) (k : ℕ) (c : Configuration) → IsBetween 1 MAX_FACTOR k → Q c → Q (record c { prio_factor = with_user u k c.prio_factor })

module _ (Q : Configuration → Type 0) (u : IsUnbroken Q) where
  Holds : Result SoFar ConfigError → Type 0
  Holds (Ok s) = Q s.config
  Holds (Err f) = Unit {0}

  by_value : {X : Type 0} (n : ℕ) (f : X → SoFar) (o : Option X) → ((v : X) → o ≡ Some v → Q (f v).config) → Holds (with_value n f o)
  unfolding Holds
  by_value n f (Some v) holds = holds v refl
  by_value n f None holds = tt

  name_in : (x v : List ℕ) → owner_in x ≡ Some v → is_name v ≡ true
  name_in x v is = by (cond_some (is_name x) x v is)
    where
      by : (is_name x ≡ true) × (x ≡ v) → is_name v ≡ true
      by told = rw (← told.1) told.0

  by_check : (x : List ℕ) (s : SoFar) → Q s.config → (q : Result (Unit {0}) ConfigError) → Holds (begin_if x (whole s) q)
  unfolding Holds
  by_check x s holds (Ok t) = u.machines (and_last s.config.machines s.last) s.config holds
  by_check x s holds (Err f) = tt

  by_pool : (w : PoolWord) (x : List ℕ) (n : ℕ) (s : SoFar) → Q s.config → Holds (pool_with w x n s)
  unfolding Holds
  by_pool pool.Spool x n s holds = u.spool x s.config holds
  by_pool pool.Owner x n s holds = by_value n (λ o. with_config (record s.config { owner = o }) s) (owner_in x) (λ o is. u.owner o s.config (name_in x o is) holds)
  by_pool (pool.Seconds i) x n s holds = by_value n (λ k. with_config (with_seconds i k s.config) s) (seconds_in i x) (λ k is. u.seconds i k s.config holds)
  by_pool pool.PreemptionRequirements x n s holds = by_value n (λ e. with_config (record s.config { preemption_requirements = e }) s) (expression_in x) (λ e is. u.preemption e s.config holds)
  by_pool pool.Machine x n s holds = by_check x s holds (machine_check x n (whole s).machines)

  by_machine : (s : SoFar) → Q s.config → (q : Result ConfiguredMachine ConfigError) → Holds (with_last s q)
  unfolding Holds
  by_machine s holds (Ok m) = holds
  by_machine s holds (Err f) = tt

  by_last : (f : ConfiguredMachine → Result ConfiguredMachine ConfigError) (n : ℕ) (s : SoFar) → Q s.config → (o : Option ConfiguredMachine) → Holds (last_with f n s o)
  unfolding Holds
  by_last f n s holds (Some m) = by_machine s holds (f m)
  by_last f n s holds None = tt

  by_sets : (k : Sets) (x : List ℕ) (n : ℕ) (s : SoFar) → Q s.config → Holds (set_to k x n s)
  by_sets (of_pool w) x n s holds = by_pool w x n s holds
  by_sets (ceiling a) x n s holds = by_value n (ceiling_set a s) (ceiling_in x) (λ k is. u.ceiling a k s.config (between 0 MAX_CEILING k (decimal x) is).1 holds)
  by_sets (prio_factor a) x n s holds = by_value n (factor_set a s) (factor_in x) (λ k is. u.factor a k s.config (between 1 MAX_FACTOR k (decimal x) is) holds)
  by_sets (of_slots w) x n s holds = by_last (machine_with w x n (total_slots s.config.machines)) n s holds s.last
  by_sets (attribute a) x n s holds = by_last (λ m. attribute_with a n m (expression_in x)) n s holds s.last

  -- ---- lines

  LineHolds : Result LinesSoFar ConfigError → Type 0
  LineHolds (Ok r) = Q r.settings.config
  LineHolds (Err f) = Unit {0}

  macro_holds : (name x : List ℕ) (r : LinesSoFar) (q : Result SoFar ConfigError) → Holds q → LineHolds (and_macro name x r.table q)
  unfolding Holds LineHolds
  macro_holds name x r (Ok s) holds = holds
  macro_holds name x r (Err f) holds = tt

  value_holds : (r : LinesSoFar) (n : ℕ) (k : Sets) (name value : List ℕ) (q : Result LinesSoFar ConfigError) → Q r.settings.config → TakesValue r n k name value q → LineHolds q
  unfolding LineHolds
  value_holds r n k name value _ holds (no_expansion refused told) = tt
  value_holds r n k name value _ holds (expanded {x = x} expands) = macro_holds name x r (set_to k x n r.settings) (by_sets k x n r.settings holds)

  key_holds : (r : LinesSoFar) (n : ℕ) (k : Sets) (name value : List ℕ) (q : Result LinesSoFar ConfigError) → Q r.settings.config → TakesKey r n k name value q → LineHolds q
  unfolding LineHolds
  key_holds r n k name value _ holds (homeless home) = tt
  key_holds r n k name value q holds (takes home taken) = value_holds r n k name value q holds taken

  setting_holds : (r : LinesSoFar) (n : ℕ) (name value : List ℕ) (q : Result LinesSoFar ConfigError) → Q r.settings.config → TakesSetting r n name value q → LineHolds q
  unfolding LineHolds
  setting_holds r n name value _ holds (unknown none) = tt
  setting_holds r n name value q holds (known {k = k} is taken) = key_holds r n k name value q holds taken

  line_holds : (r : LinesSoFar) (l : Line) (q : Result LinesSoFar ConfigError) → Q r.settings.config → TakesLine r l q → LineHolds q
  unfolding LineHolds
  line_holds r l _ holds (no_setting is) = tt
  line_holds r l q holds (sets {name = name} {value = value} is taken) = setting_holds r l.number name value q holds taken

  ReadHolds : ReadResult → Type 0
  ReadHolds (Ok c) = Q c
  ReadHolds (Err f) = Unit {0}

  read_holds : (ls : List Line) (r : LinesSoFar) (q : ReadResult) → Q r.settings.config → Reads ls r q → ReadHolds q
  unfolding ReadHolds LineHolds
  read_holds _ r _ holds (ended is) = u.machines (and_last r.settings.config.machines r.settings.last) r.settings.config holds
  read_holds _ r _ holds (no_machine is) = tt
  read_holds _ r _ holds (refuses a) = tt
  read_holds _ r q holds (and_line {s = s} {l = l} {ls = ls} a more) = read_holds ls s q (line_holds r l (Ok s) holds a) more

  pub throughout : Q plain_configuration → (text : List ℕ) (c : Configuration) → IsConfiguration text (Ok c) → Q c
  unfolding ReadHolds
  throughout plain text c is = read_holds (logical_lines text) begun (Ok c) plain is

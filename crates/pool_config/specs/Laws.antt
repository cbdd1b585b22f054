-- What the lines of a configuration set, told without a reader.
use Rattle.std.specs.Prelude.{◌≡◌, ◌⊎◌, ℕ, List, [], ◌∷◌, ◌++◌, Some, Ok, Err}
use Rattle.line_text.specs.declared.logical.Line.{Line}
use Rattle.line_text.specs.Expansion.{IsExpansion}
use Rattle.line_text.specs.Macros.{Macros}
use Rattle.pool_config.specs.declared.error.ConfigError.{ConfigError}
use Rattle.pool_config.specs.declared.setting_word.Interval.{Interval}
use Rattle.pool_config.specs.declared.setting_word.Interval.TheVariants as interval
use Rattle.pool_config.specs.declared.setting_word.PoolWord.TheVariants as pool
use Rattle.pool_config.specs.Configuration.{Configuration}
use Rattle.pool_config.specs.Keys.{Sets, of_pool}
use Rattle.pool_config.specs.Names.{name_sets, setting_in}
use Rattle.pool_config.specs.Settings.{seconds_in}
use Rattle.pool_config.specs.Lines.{LinesSoFar, TakesLine}

-- lines are taken, one after the other
pub data Takes : List Line → LinesSoFar → LinesSoFar → Type 0 where
  none : {r : LinesSoFar} → Takes [] r r
  one_more : {l : Line} {ls : List Line} {r s t : LinesSoFar}
      → TakesLine r l (Ok s) → Takes ls s t → Takes (l ∷ ls) r t

-- the lines up to the first that is refused are taken, and that one is refused
pub record IsFirstRefused (ls : List Line) (r : LinesSoFar) (f : ConfigError) : Type 0 where
  pub before : List Line
  pub line : Line
  pub after : List Line
  pub lines : ls ≡ before ++ line ∷ after
  pub state : LinesSoFar
  pub taken : Takes before r state
  pub refused : TakesLine state line (Err f)

-- a time of a configuration
abbrev pub seconds_of : Interval → Configuration → ℕ
seconds_of interval.ClassadLifetime c = c.classad_lifetime
seconds_of interval.UpdateInterval c = c.update_interval
seconds_of interval.NegotiatorInterval c = c.negotiator_interval
seconds_of interval.AliveInterval c = c.alive_interval
seconds_of interval.JobLease c = c.job_lease
seconds_of interval.ClaimLease c = c.claim_lease
seconds_of interval.MatchTimeout c = c.match_timeout
seconds_of interval.PeriodicExprInterval c = c.periodic_expr_interval
seconds_of interval.DecayTick c = c.decay_tick
seconds_of interval.MaxJobRetirementTime c = c.maxjobretirementtime
seconds_of interval.MachineMaxVacateTime c = c.machinemaxvacatetime

-- the value, as it is written, that a line gives a name
pub record GivesName (l : Line) (k : Sets) (value : List ℕ) : Type 0 where
  pub name : List ℕ
  pub setting : setting_in l.text ≡ Some (name, value)
  pub sets : name_sets name ≡ Some k

-- no line gives the name a value
abbrev pub NoneGives : List Line → Sets → Type 0
NoneGives [] k = Unit {0}
NoneGives (l ∷ ls) k = ((value : List ℕ) → ¬ GivesName l k value) × NoneGives ls k

-- the last line that gives a time a value, and the number that this is with its macros replaced
pub record IsLastOf (ls : List Line) (i : Interval) (n : ℕ) : Type 0 where
  pub before : List Line
  pub line : Line
  pub after : List Line
  pub lines : ls ≡ before ++ line ∷ after
  pub value : List ℕ
  pub gives : GivesName line (of_pool (pool.Seconds i)) value
  pub rest : NoneGives after (of_pool (pool.Seconds i))
  pub table : Macros
  pub expansion : List ℕ
  pub expanded : IsExpansion table value expansion
  pub is : seconds_in i expansion ≡ Some n

-- A time is the number of the last line that gives it a value, or what it was where no line does.
abbrev pub CountsLast : List Line → Interval → ℕ → ℕ → Type 0
CountsLast ls i was n =
    (NoneGives ls (of_pool (pool.Seconds i)) × (n ≡ was)) ⊎ IsLastOf ls i n

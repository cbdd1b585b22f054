-- What a run's files are, and when one is refused.
use Rattle.std.specs.Prelude.{◌≡◌, ◌<◌, ℕ, List, All, map, Option, Some, None, Ok, Err}
use Rattle.pool_outer.specs.Files.{Contents}
use Rattle.pool_config.specs.Configuration.{Configuration}
use Rattle.pool_config.specs.declared.config.TheConstants.{MAX_MACHINES}
use Rattle.pool_config.specs.declared.error.ConfigError.{ConfigError}
use Rattle.pool_config.specs.declared.slots.ConfiguredSlot.{ConfiguredSlot}
use Rattle.pool_config.specs.Lines.{IsConfiguration}
use Rattle.pool_config.specs.Slots.{configured_slots}
use Rattle.thin_pool.specs.declared.history.Step.{Step}
use Rattle.thin_pool.specs.declared.slot.PoolSlot.{PoolSlot}
use Rattle.thin_pool.specs.CourseValue.{CourseValue}
use Rattle.thin_pool.specs.Histories.{submissions_in}
use Rattle.thin_pool.specs.PoolValue.{PoolValue}
use Rattle.thin_pool.specs.Reactions.{opening_pool}
use Rattle.thin_pool.specs.Resting.{IsResting}
use Rattle.pool_input.specs.declared.fault.Fault.{Fault}
use Rattle.pool_input.specs.declared.status.Status.{Status}
use Rattle.pool_input.specs.Faults.{config_fault, fault_status}
use Rattle.pool_input.specs.Readings.{AreRead, IsAnyReading}
use Rattle.pool_input.specs.Submissions.{IsTextOf, HasNoText, Submits, StopsAt, submit_steps}
use Rattle.pool_input.specs.Words.{IsRun}

pub record IsConfigFile (file : Option (List ℕ)) (c : Configuration) : Type 0 where
  pub text : List ℕ
  pub text_is : IsTextOf file text
  pub is : IsConfiguration text (Ok c)

-- a configuration is refused: as no text, or by its reader
pub data IsConfigRefused (file : Option (List ℕ)) : Fault → Type 0 where
  no_text : {f : Fault} → HasNoText file f → IsConfigRefused file f
  refused : {text : List ℕ} {e : ConfigError} → IsTextOf file text
      → IsConfiguration text (Err e) → IsConfigRefused file (config_fault e)

-- a slot of the configuration, as the pool has it
abbrev pub pool_slot : ConfiguredSlot → PoolSlot
pool_slot s = record { slot = s.slot; name = s.name; ad = s.ad }

abbrev pub pool_slots : Configuration → List PoolSlot
pool_slots c = map pool_slot (configured_slots c)

-- a pool has the slots of the configuration, and what is submitted is what the submit files ask
-- for
pub record IsOfFiles (allows : ℕ → Type 0) (file : Contents) (config : List ℕ)
    (submits : List (List ℕ)) (opening : PoolValue) (list : List Step) : Type 0 where
  pub configuration : Configuration
  pub configured : IsConfigFile (file config) configuration
  pub opening_is : opening ≡ opening_pool (pool_slots configuration)
  pub submitted : Submits allows file configuration.owner submits opening (submissions_in list) None

-- one of the files is refused, the first in the order of the words
pub data IsRefusedOf (allows : ℕ → Type 0) (file : Contents) (config : List ℕ)
    (submits : List (List ℕ)) : Status → Type 0 where
  at_config : {f : Fault} → IsConfigRefused (file config) f
      → IsRefusedOf allows file config submits (fault_status config f)
  at_submit : {c : Configuration} {s : Status} → IsConfigFile (file config) c
      → StopsAt allows file c.owner submits (opening_pool (pool_slots c)) s
      → IsRefusedOf allows file config submits s

-- one of the files is refused by what they hold, whatever the clock reads
abbrev pub IsRefusedByFiles : Contents → List ℕ → List (List ℕ) → Status → Type 0
IsRefusedByFiles file config submits s = IsRefusedOf IsAnyReading file config submits s

-- the same, of the files that the words name
pub record IsRefusedInput (allows : ℕ → Type 0) (file : Contents) (words : List (List ℕ))
    (s : Status) : Type 0 where
  pub config : List ℕ
  pub submits : List (List ℕ)
  pub words_are : IsRun words config submits
  pub refused : IsRefusedOf allows file config submits s

abbrev pub IsInputRefused : Contents → List (List ℕ) → Status → Type 0
IsInputRefused file words s = IsRefusedInput IsAnyReading file words s

-- the pool and its history are those of the files that the words name
pub record IsOfInput (allows : ℕ → Type 0) (file : Contents) (words : List (List ℕ))
    (opening : PoolValue) (list : List Step) : Type 0 where
  pub config : List ℕ
  pub submits : List (List ℕ)
  pub words_are : IsRun words config submits
  pub files : IsOfFiles allows file config submits opening list

abbrev pub OfFilesFrom : (ℕ → Type 0) → Contents → List ℕ → List (List ℕ) → Option PoolValue
    → List Step → Type 0
OfFilesFrom allows file config submits None list = Unit {0}
OfFilesFrom allows file config submits (Some opening) list =
    IsOfFiles allows file config submits opening list

abbrev pub OfInputFrom : (ℕ → Type 0) → Contents → List (List ℕ) → Option PoolValue → List Step
    → Type 0
OfInputFrom allows file words None list = Unit {0}
OfInputFrom allows file words (Some opening) list = IsOfInput allows file words opening list

-- each slot is of one of so many machines
abbrev pub ArePlaced : List PoolSlot → ℕ → Type 0
ArePlaced slots machines = All (λ s. s.slot.machine < machines) slots

-- a pool to which only submissions have happened, at readings of the clock, in which nothing runs
pub record HasSubmitted (allows : ℕ → Type 0) (c : CourseValue) : Type 0 where
  pub opened : c.opening ≡ opening_pool c.opening.slots
  pub slots : c.pool.slots ≡ c.opening.slots
  pub placed : ArePlaced c.opening.slots MAX_MACHINES
  pub steps : c.list ≡ submit_steps (submissions_in c.list)
  pub read : AreRead allows c.list
  pub rests : IsResting c.pool

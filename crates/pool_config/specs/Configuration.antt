-- What a configuration says.
use Rattle.std.specs.Prelude.{◌<◌, ◌≤◌, ℕ, ◌+◌, pos, true, false, List, [], ◌∷◌, length, map, codes, All, Option, None, Result, Ok, Err}
use Rattle.ad_value.specs.Content.{truth, integer}
use Rattle.ad_value.specs.declared.user_number.UserNumber.{UserNumber}
use Rattle.ad_tree.specs.Ad.{Attributes}
use Rattle.ad_tree.specs.Tree.{Tree, tree, literal}
use Rattle.pool_config.specs.declared.config.Config.{Config}
use Rattle.pool_config.specs.declared.config.Machine.{Machine}
use Rattle.pool_config.specs.declared.config.TheConstants.{MAX_MACHINES, MAX_SLOTS, MAX_MACHINE_ATTRIBUTES}
use Rattle.pool_config.specs.declared.error.ConfigError.{ConfigError}

-- a machine, and what each of its slots has
pub record ConfiguredMachine : Type 0 where
  pub name : List ℕ
  pub slots : ℕ
  pub cpus : ℕ
  pub memory : ℕ
  pub disk : ℕ
  pub start : Tree
  pub rank : Tree
  pub attrs : Attributes

pub record Configuration : Type 0 where
  pub spool : Option (List ℕ)
  pub owner : List ℕ
  pub classad_lifetime : ℕ
  pub update_interval : ℕ
  pub negotiator_interval : ℕ
  pub alive_interval : ℕ
  pub job_lease : ℕ
  pub claim_lease : ℕ
  pub match_timeout : ℕ
  pub periodic_expr_interval : ℕ
  pub decay_tick : ℕ
  pub maxjobretirementtime : ℕ
  pub machinemaxvacatetime : ℕ
  pub preemption_requirements : Tree
  pub ceiling : List UserNumber
  pub prio_factor : List UserNumber
  pub machines : List ConfiguredMachine

-- ---- what the program keeps of it

abbrev pub machine_of : Machine → ConfiguredMachine
machine_of m = record {
  name = m.name;
  slots = m.slots;
  cpus = m.cpus;
  memory = m.memory;
  disk = m.disk;
  start = tree m.start;
  rank = tree m.rank;
  attrs = m.attrs;
}

abbrev pub configuration_of : Config → Configuration
configuration_of c = record {
  spool = c.spool;
  owner = c.owner;
  classad_lifetime = c.classad_lifetime;
  update_interval = c.update_interval;
  negotiator_interval = c.negotiator_interval;
  alive_interval = c.alive_interval;
  job_lease = c.job_lease;
  claim_lease = c.claim_lease;
  match_timeout = c.match_timeout;
  periodic_expr_interval = c.periodic_expr_interval;
  decay_tick = c.decay_tick;
  maxjobretirementtime = c.maxjobretirementtime;
  machinemaxvacatetime = c.machinemaxvacatetime;
  preemption_requirements = tree c.preemption_requirements;
  ceiling = c.ceiling;
  prio_factor = c.prio_factor;
  machines = map machine_of c.machines;
}

abbrev pub outcome : Result Config ConfigError → Result Configuration ConfigError
outcome (Ok c) = Ok (configuration_of c)
outcome (Err f) = Err f

-- ---- what holds where nothing is set

abbrev pub plain_machine : List ℕ → ConfiguredMachine
plain_machine name = record {
  name = name;
  slots = 1;
  cpus = 1;
  memory = 1024;
  disk = 1048576;
  start = literal (truth true);
  rank = literal (integer (pos 0));
  attrs = [];
}

abbrev pub plain_configuration : Configuration
plain_configuration = record {
  spool = None;
  owner = codes "user";
  classad_lifetime = 900;
  update_interval = 300;
  negotiator_interval = 60;
  alive_interval = 300;
  job_lease = 2400;
  claim_lease = 2400;
  match_timeout = 120;
  periodic_expr_interval = 60;
  decay_tick = 84;
  maxjobretirementtime = 0;
  machinemaxvacatetime = 600;
  preemption_requirements = literal (truth false);
  ceiling = [];
  prio_factor = [];
  machines = [];
}

-- ---- limits

abbrev pub total_slots : List ConfiguredMachine → ℕ
total_slots [] = 0
total_slots (m ∷ ms) = m.slots + total_slots ms

abbrev pub HasRoom : ConfiguredMachine → Type 0
HasRoom m = length m.attrs ≤ MAX_MACHINE_ATTRIBUTES

pub record IsWithinLimits (c : Configuration) : Type 0 where
  pub some : 0 < length c.machines
  pub machines : length c.machines ≤ MAX_MACHINES
  pub slots : total_slots c.machines ≤ MAX_SLOTS
  pub room : All HasRoom c.machines

-- each machine has a slot
abbrev pub HaveSlots : List ConfiguredMachine → Type 0
HaveSlots [] = Unit {0}
HaveSlots (m ∷ ms) = (0 < m.slots) × HaveSlots ms

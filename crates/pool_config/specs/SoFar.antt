-- What the program keeps of a configuration under way.
use Rattle.std.specs.Prelude.{option_map}
use Rattle.pool_config.specs.declared.settings.Settings.{Settings}
use Rattle.pool_config.specs.Configuration.{configuration_of, machine_of}
use Rattle.pool_config.specs.Settings.{SoFar}

-- the users' numbers stand apart
abbrev pub so_far : Settings → SoFar
so_far s = record {
  config = record (configuration_of s.config) { ceiling = s.ceiling; prio_factor = s.prio_factor };
  last = option_map machine_of s.last;
}

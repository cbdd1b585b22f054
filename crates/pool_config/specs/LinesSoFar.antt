-- What the program keeps of the lines that were taken.
use Rattle.pool_config.specs.SoFar.{so_far}
use Rattle.pool_config.specs.declared.file.Reading.{Reading}
use Rattle.pool_config.specs.Lines.{LinesSoFar}

abbrev pub lines_so_far : Reading → LinesSoFar
lines_so_far r = record { settings = so_far r.settings; table = r.table }

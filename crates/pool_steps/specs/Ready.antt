-- What is ready to be done, with all its memory.
use Rattle.std.specs.Prelude.{◌≡◌, List}
use Rattle.pool_view.specs.declared.run.EndReport.{EndReport}
use Rattle.startd_core.specs.Startds.{After, StartdValue}
use Rattle.startd_core.specs.PreparedStartds.{startd_after}
use Rattle.pool_steps.specs.declared.startds.StartdDeed.{StartdDeed}

-- it makes of a startd what an event does
pub record IsStartdDeed (a : After) (said : List EndReport) (d : StartdDeed) (v : StartdValue)
    : Type 0 where
  pub startd : startd_after d.prepared v ≡ a.startd
  pub step : d.prepared.step ≡ a.step
  pub ends : d.reports ≡ said

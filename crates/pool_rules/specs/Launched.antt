-- What is launched, as a run of the abstract pool.
use Rattle.std.specs.Prelude.{◌≡◌}
use Rattle.job_launch.specs.Launches.{launch_of}
use Rattle.pool_view.specs.AbstractPool.{AbstractPool, IsIn}
use Rattle.pool_view.specs.Safe.{IsMatched}
use Rattle.pool_view.specs.declared.run.Run.{Run}
use Rattle.startd_core.specs.declared.answer.Permit.{Permit}

-- A permit is of a run that is there, of its job and of what its job's ad says; and the run was
-- started by a match of its slot's ad and its job's.
abbrev pub IsPermitOf : AbstractPool → Permit → Type 0
IsPermitOf w permit = (r : Run) × IsIn r w.runs × (r.run ≡ permit.run) × (r.job ≡ permit.job)
    × (permit.what ≡ launch_of r.judged.job) × IsMatched w r

-- Past the events that were looked at, the answer is the same.
use Rattle.std.proofs.Common.{◌≡◌, drop}
use Rattle.pool_master.specs.UserLog.{never_starts}
use Rattle.pool_master.proofs.user_log.never_starts.Given as goal

abbrev pub invariant-loop-step : goal.invariant-loop-step
invariant-loop-step l = never_starts l.job l.steps ≡ never_starts l.job (drop l.step-index l.steps)

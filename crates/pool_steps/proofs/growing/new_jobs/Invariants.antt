-- These are the jobs so far.
use Rattle.std.proofs.Common.{◌≡◌}
use Rattle.pool_rules.specs.Logging.{cluster_jobs}
use Rattle.pool_steps.proofs.growing.new_jobs.Given as goal

abbrev pub invariant-loop-proc : goal.invariant-loop-proc
invariant-loop-proc l = l.more ≡ cluster_jobs l.cluster l.proc

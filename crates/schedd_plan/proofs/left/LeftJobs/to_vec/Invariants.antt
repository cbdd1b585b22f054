-- The jobs so far, with those yet to come, are all.
use Rattle.std.proofs.Common.{◌≡◌, ◌++◌, length}
use Rattle.schedd_plan.specs.LeftOrder.{later_jobs}
use Rattle.schedd_plan.proofs.left.LeftJobs.to_vec.Given as goal

abbrev pub invariant-left : goal.invariant-left
invariant-left l = l.jobs.items ++ later_jobs l.last l.self ≡ l.self

abbrev pub decreases-left : goal.decreases-left
decreases-left l = length (later_jobs l.last l.self)

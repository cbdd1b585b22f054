use Rattle.std.proofs.Common.{rules}
use Rattle.schedd_plan.proofs.LeftLists.{found_left}
use Rattle.schedd_plan.proofs.left.LeftJobs.has.Goals as goal

pub returns : goal.returns
returns c = search (rules, found_left)

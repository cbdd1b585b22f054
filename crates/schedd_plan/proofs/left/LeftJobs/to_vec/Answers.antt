use Rattle.std.proofs.Common.{◌∙◌, ◌++◌, Some, List, ap}
use Rattle.claim_id.specs.declared.numbers.JobId.{JobId}
use Rattle.schedd_plan.specs.LeftOrder.{later_jobs}
use Rattle.schedd_plan.proofs.LeftLists.{listed_more}
use Rattle.schedd_plan.proofs.left.LeftJobs.to_vec.Goals as goal

pub left-preserved : goal.left-preserved
left-preserved c =
    ap (λ (jobs : List JobId). jobs ++ later_jobs (Some c.in-Some.job) c.args.self.now) c.in_ok-push.ensures.items
    ∙ listed_more c.left.last c.args.self.now c.in-Some.job c.left.jobs.items c.left.invariant c.in-Some.ensures.next

-- Which job a plan takes out of the queue, and which it removes.
use Rattle.std.specs.Prelude.{Option, Some, None}
use Rattle.claim_id.specs.declared.numbers.JobId.{JobId}
use Rattle.schedd_plan.specs.declared.plan.JobPlan.{JobPlan}
use Rattle.schedd_plan.specs.declared.plan.JobPlan.TheVariants as plan

-- the job leaves the queue
abbrev pub leaving_job : JobPlan → Option JobId
leaving_job (plan.Complete job completion) = Some job
leaving_job (plan.Remove job) = Some job
leaving_job _ = None

abbrev pub removed_by : JobPlan → Option JobId
removed_by (plan.Remove job) = Some job
removed_by (plan.MarkRemoved job) = Some job
removed_by _ = None

-- the job is removed, at once or when its run has ended
abbrev pub ordered_job : Option JobPlan → Option JobId
ordered_job None = None
ordered_job (Some p) = removed_by p

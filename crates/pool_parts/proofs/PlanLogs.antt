-- The transaction of a plan can be logged over a loggable queue.
use Rattle.std.proofs.Common.{ap, subst}
use Rattle.std.specs.Prelude.{IfSome, is_ok}
use Rattle.claim_id.specs.Texts.{IsJob}
use Rattle.queue_tx.specs.declared.key.Key.TheVariants.{Proc}
use Rattle.queue_tx.specs.Queues.{KeyedAds, IsQueue}
use Rattle.queue_tx.specs.Printable.{IsPrintableKey}
use Rattle.schedd_plan.specs.declared.plan.JobPlan.{JobPlan}
use Rattle.schedd_plan.specs.Plans.{job_of, plan_ops}
use Rattle.pool_parts.specs.Loggable.{CanBeLogged, IsLoggablePlan, IsLoggableQueue}
use Rattle.pool_parts.proofs.Doing.{plan_done, stands_if}
use Rattle.pool_parts.proofs.Printing.{plan_prints}

pub plan_logs : (q : KeyedAds) (p : JobPlan) → IsQueue q → IsLoggableQueue q → IsLoggablePlan q p → CanBeLogged (plan_ops p) q
plan_logs q p s logs is =
    let stands = stands_if (Proc (job_of p)) q is.there in
    let job : IsJob (job_of p) = subst (λ o. IfSome o (λ ad. IsPrintableKey (Proc (job_of p)))) stands.1 (logs.keys (Proc (job_of p))) in
    record {
      done = ap is_ok (plan_done q p s logs.roomy is.there is.header).1;
      printable = plan_prints p job is.claim is.short;
    }

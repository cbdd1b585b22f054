-- The numbers of a plan are short where those of its transaction are.
use Rattle.std.proofs.Common.{◌≡◌, List, true, false, subst}
use Rattle.queue_tx.specs.Operations.{Operation}
use Rattle.schedd_plan.specs.declared.plan.JobPlan.{JobPlan}
use Rattle.schedd_plan.specs.declared.plan.JobPlan.TheVariants as plan
use Rattle.schedd_plan.specs.Plans.{plan_ops}
use Rattle.pool_parts.specs.Loggable.{AreShortOps, HasShortEnd, HasShortNumbers}

by_ops : (p : JobPlan) → AreShortOps (plan_ops p) → HasShortEnd p → HasShortNumbers p
unfolding plan_ops
by_ops (plan.PutIdle job) ops end = tt
by_ops (plan.PutHeld job reason) ops end = tt
by_ops (plan.Complete job completion) ops end = end
by_ops (plan.Remove job) ops end = tt
by_ops (plan.MarkRemoved job) ops end = tt
by_ops (plan.MarkHeld job reason) ops end = tt
by_ops (plan.MarkRunning job) ops end = tt
by_ops (plan.Lengthen job until) ops end = ops.0
by_ops (plan.Grant job claim number until true) ops end = (ops.1.1.1.1.0, ops.1.1.1.0)
by_ops (plan.Grant job claim number until false) ops end = (ops.1.0, ops.1.1.1.1.1.0)

pub numbers_are_short : (p : JobPlan) (tx os : List Operation) → HasShortEnd p → AreShortOps os → os ≡ tx → tx ≡ plan_ops p → HasShortNumbers p
numbers_are_short p tx os end ops same is = by_ops p (subst AreShortOps is (subst AreShortOps same ops)) end

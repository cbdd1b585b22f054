-- That the numbers of an unfinished plan are short.
use Rattle.std.specs.Prelude.{◌≡◌, List, IfSome}
use Rattle.pool_parts.specs.Loggable.{HasShortNumbers}
use Rattle.pool_parts.specs.declared.pending.Unfinished.{Unfinished}
use Rattle.pool_parts.specs.declared.pending.Unfinished.TheVariants.{Submission, Plan}
use Rattle.pool_state.specs.declared.state.PoolState.{PoolState}
use Rattle.queue_tx.specs.Operations.{Operation}
use Rattle.schedd_plan.specs.Plans.{plan_ops}

-- those of a plan that has its own transaction
abbrev pub IsShortPlan : Unfinished → List Operation → Type 0
IsShortPlan (Submission cluster count) tx = Unit {0}
IsShortPlan (Plan p) tx = tx ≡ plan_ops p → HasShortNumbers p

abbrev pub HasShortPlan : PoolState → Type 0
HasShortPlan s = IfSome s.pending (λ p. IsShortPlan p.what p.tx)

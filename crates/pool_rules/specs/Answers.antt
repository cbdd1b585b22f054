-- What is answered, and what is to be logged.
use Rattle.std.specs.Prelude.{ℕ, List, Option, Some, None}
use Rattle.pool_parts.specs.declared.answer.Answer.{Answer}
use Rattle.pool_parts.specs.declared.answer.Answer.TheVariants as answer
use Rattle.pool_parts.specs.declared.answer.Stepped.{Stepped}
use Rattle.pool_parts.specs.Answers.{kept_of}
use Rattle.pool_parts.specs.declared.pending.Pending.{Pending}
use Rattle.pool_parts.specs.declared.pending.Unfinished.{Unfinished}
use Rattle.pool_parts.specs.declared.pending.Unfinished.TheVariants.{Plan}
use Rattle.queue_tx.specs.Operations.{Operation}
use Rattle.schedd_plan.specs.declared.plan.JobPlan.{JobPlan}
use Rattle.schedd_plan.specs.Plans.{plan_ops}
use Rattle.startd_core.specs.declared.answer.StartdAnswer.{StartdAnswer}
use Rattle.startd_core.specs.declared.answer.StartdAnswer.TheVariants as startd

-- an answer, and the same for the history
abbrev pub answered : Answer → Stepped
answered a = record { answer = a; kept = kept_of a }

-- what a startd's machine is to do
abbrev pub answer_of_startd : StartdAnswer → Answer
answer_of_startd startd.Done = answer.Done
answer_of_startd (startd.Launch permit) = answer.Launch permit
answer_of_startd (startd.Kill runs) = answer.Kill runs

-- ---- a transaction that is to be logged
abbrev pub pending_tx : ℕ → List Operation → Unfinished → Pending
pending_tx number tx what = record { number = number; tx = tx; what = what }

abbrev pub pending_plan : ℕ → JobPlan → Pending
pending_plan number p = pending_tx number (plan_ops p) (Plan p)

-- of what a schedd plans, perhaps nothing
abbrev pub pending_by : ℕ → Option JobPlan → Option Pending
pending_by number None = None
pending_by number (Some p) = Some (pending_plan number p)

abbrev pub answer_with : Option Pending → Answer
answer_with None = answer.Done
answer_with (Some p) = answer.Append p.number p.tx

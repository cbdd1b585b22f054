use Rattle.std.proofs.Common.{Option, Ok, ap, ◌∙◌}
use Rattle.std.specs.Prelude.{unwrap_or}
use Rattle.claim_id.specs.declared.numbers.JobId.{JobId}
use Rattle.script_plan.proofs.orders.job_of.Goals as goal

pub returns-in-Ok : goal.returns-in-Ok
returns-in-Ok c = λ job. (
  λ is. (c.read.ensures job).0 (c.in-Ok.is ∙ ap (λ (o : Option JobId). Ok (unwrap_or o job)) is),
  λ said. let read = (c.read.ensures job).1 said in let here = c.in-Ok.is in cc,
)

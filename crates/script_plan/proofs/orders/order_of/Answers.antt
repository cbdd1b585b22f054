use Rattle.std.proofs.Common.{Option, Some, ap, ◌∙◌}
use Rattle.std.specs.Prelude.{unwrap_or}
use Rattle.claim_id.specs.declared.order.Wish.{Wish}
use Rattle.script_plan.proofs.Values.{same_value}
use Rattle.script_plan.proofs.orders.order_of.Goals as goal

pub returns : goal.returns
returns c = λ w. (
  λ is. (
    (c.time_of.ensures w.at).0 (c.in_ok-time_of.was ∙ ap (λ (o : Option Wish). Some (unwrap_or o w).at) is),
    (c.verb_of.ensures w.verb).0 (c.in_ok-verb_of.was ∙ ap (λ (o : Option Wish). Some (unwrap_or o w).verb) is),
    (c.job_of.ensures w.job).0 (c.in_ok-job_of.was ∙ ap (λ (o : Option Wish). Some (unwrap_or o w).job) is),
  ),
  λ said.
      let at = same_value _ w.at c.in_ok-time_of.was ((c.time_of.ensures w.at).1 said.0) in
      let verb = same_value _ w.verb c.in_ok-verb_of.was ((c.verb_of.ensures w.verb).1 said.1) in
      let job = same_value _ w.job c.in_ok-job_of.was ((c.job_of.ensures w.job).1 said.2) in
      λ i. Some (record { at = at i; verb = verb i; job = job i }),
)

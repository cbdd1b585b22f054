use Rattle.std.proofs.Common.{Option, Some, ap, ◌∙◌}
use Rattle.std.specs.Prelude.{unwrap_or}
use Rattle.script_plan.specs.declared.entry.Load.{Load}
use Rattle.script_plan.proofs.Values.{same_value}
use Rattle.script_plan.proofs.storms.load_of.Goals as goal

pub returns : goal.returns
returns c = λ l. (
  λ is. (
    (c.load_number.ensures l.number).0 (c.in_ok-load_number.was ∙ ap (λ (o : Option Load). Some (unwrap_or o l).number) is),
    (c.load_jobs.ensures l.jobs).0 (c.in_ok-load_jobs.was ∙ ap (λ (o : Option Load). Some (unwrap_or o l).jobs) is),
  ),
  λ said.
      let number = same_value _ l.number c.in_ok-load_number.was ((c.load_number.ensures l.number).1 said.0) in
      let jobs = same_value _ l.jobs c.in_ok-load_jobs.was ((c.load_jobs.ensures l.jobs).1 said.1) in
      λ i. Some (record { number = number i; jobs = jobs i }),
)

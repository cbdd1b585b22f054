use Rattle.std.proofs.Common.{Option, Some, ap, ◌∙◌}
use Rattle.std.specs.Prelude.{unwrap_or}
use Rattle.script_plan.specs.declared.entry.Crash.{Crash}
use Rattle.script_plan.proofs.Values.{same_value}
use Rattle.script_plan.proofs.storms.crash_of.Goals as goal

pub returns : goal.returns
returns c = λ crash. (
  λ is. (
    (c.daemon_of.ensures crash.machine).0 (c.in_ok-daemon_of.was ∙ ap (λ (o : Option Crash). Some (unwrap_or o crash).machine) is),
    (c.point_of.ensures crash.point).0 (c.in_ok-point_of.was ∙ ap (λ (o : Option Crash). Some (unwrap_or o crash).point) is),
  ),
  λ said.
      let machine = same_value _ crash.machine c.in_ok-daemon_of.was ((c.daemon_of.ensures crash.machine).1 said.0) in
      let point = same_value _ crash.point c.in_ok-point_of.was ((c.point_of.ensures crash.point).1 said.1) in
      λ i. Some (record { machine = machine i; point = point i }),
)

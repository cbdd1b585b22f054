use Rattle.std.proofs.Common.{ap, ◌∙◌}
use Rattle.std.specs.Map.{keys_of}
use Rattle.schedd_plan.specs.JobPlaces.{taken_off}
use Rattle.schedd_plan.proofs.LeftLists.{removed_left}
use Rattle.schedd_plan.proofs.left.LeftJobs.take_off.Goals as goal

pub returns : goal.returns
returns c = ap keys_of c.remove.ensures.entries ∙ removed_left c.args.job c.self.inside.jobs c.remove.ensures.sorted ∙ ap (taken_off c.args.job) c.self.view_is

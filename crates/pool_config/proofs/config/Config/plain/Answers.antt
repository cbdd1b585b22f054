use Rattle.std.proofs.Common.{false, map}
use Rattle.pool_config.specs.Configuration.{machine_of, plain_configuration}
use Rattle.pool_config.proofs.Literals.{truth_tree}
use Rattle.pool_config.proofs.config.Config.plain.Goals as goal

pub returns : goal.returns
returns c =
    λ i. record plain_configuration { owner = c.in_ok-from_str.ensures i; preemption_requirements = truth_tree false i; ceiling = c.new.ensures i; prio_factor = c.new-2.ensures i; machines = map machine_of (c.new-3.ensures i) }

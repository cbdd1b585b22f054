use Rattle.std.proofs.Common.{pos, true}
use Rattle.pool_config.specs.Configuration.{plain_machine}
use Rattle.pool_config.proofs.Literals.{truth_tree, integer_tree}
use Rattle.pool_config.proofs.config.Machine.plain.Goals as goal

pub returns : goal.returns
returns c =
    λ i. record (plain_machine c.args.name.now) { name = c.in_ok-from_str.ensures i; start = truth_tree true i; rank = integer_tree (pos 0) i; attrs = c.new.ensures i }

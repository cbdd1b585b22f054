use Rattle.std.proofs.Common.{None}
use Rattle.pool_config.proofs.settings.Settings.new.Goals as goal

pub returns : goal.returns
returns c = λ i. record { config = record (c.in_ok-plain.ensures i) { ceiling = c.new.ensures i; prio_factor = c.new-2.ensures i }; last = None }

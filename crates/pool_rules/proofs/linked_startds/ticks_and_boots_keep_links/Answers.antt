use Rattle.pool_rules.proofs.StartdTimes.{boot_linked, tick_linked}
use Rattle.pool_rules.proofs.linked_startds.ticks_and_boots_keep_links.Goals as goal

pub returns-clause-ticks : goal.returns-clause-ticks
returns-clause-ticks c = λ p a machine v reading linked at. tick_linked p a machine v linked at reading

pub returns-clause-boots : goal.returns-clause-boots
returns-clause-boots c = λ p a machine v reading linked at. boot_linked p a machine v linked at reading

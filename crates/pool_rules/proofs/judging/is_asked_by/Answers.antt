use Rattle.pool_rules.proofs.Judged.{first_fails, none_passes, second_tells, some_passes}
use Rattle.pool_rules.proofs.judging.is_asked_by.Goals as goal

pub returns-in-None : goal.returns-in-None
returns-in-None c = none_passes _ c.in-None.ensures.ad

pub returns-else-is_idle : goal.returns-else-is_idle
returns-else-is_idle c = some_passes _ c.in-Some.ensures.ad (first_fails c.if-is_idle.false c.is_idle.ensures)

pub returns-then-is_idle : goal.returns-then-is_idle
returns-then-is_idle c = some_passes _ c.in-Some.ensures.ad (second_tells c.if-is_idle.true c.is_idle.ensures c.is_request_of.ensures)

use Rattle.std.proofs.Common.{rules}
use Rattle.queue_log.proofs.same.is_same_op.Goals as goal

pub returns-then-is_same_text : goal.returns-then-is_same_text
returns-then-is_same_text c = search rules

pub returns-else-is_same_text : goal.returns-else-is_same_text
returns-else-is_same_text c = search rules

pub returns-then-is_same_text-2 : goal.returns-then-is_same_text-2
returns-then-is_same_text-2 c = search rules

pub returns-else-is_same_text-2 : goal.returns-else-is_same_text-2
returns-else-is_same_text-2 c = search rules

pub returns-then-eq-3 : goal.returns-then-eq-3
returns-then-eq-3 c = search rules

pub returns-else-eq-3 : goal.returns-else-eq-3
returns-else-eq-3 c = search rules

pub returns-in-DestroyAd-DestroyAd : goal.returns-in-DestroyAd-DestroyAd
returns-in-DestroyAd-DestroyAd c = search rules

pub returns-in_default : goal.returns-in_default
returns-in_default c = search rules

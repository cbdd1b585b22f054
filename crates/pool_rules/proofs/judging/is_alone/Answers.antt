use Rattle.pool_rules.proofs.Judged.{only_one, too_few}
use Rattle.pool_rules.proofs.judging.is_alone.Goals as goal

pub returns-in_default : goal.returns-in_default
returns-in_default c = too_few c.args.list.now c.args.ad.now c.in_default.len_below

pub returns-in-len1 : goal.returns-in-len1
returns-in-len1 c = only_one c.args.list.now c.args.ad.now c.only-item.result c.in-len1.len_at_least c.in-len1.len_below c.only-item.is c.same.ensures

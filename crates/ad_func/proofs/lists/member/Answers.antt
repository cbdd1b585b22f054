use Rattle.ad_func.specs.Lists.{member}
use Rattle.ad_func.proofs.ArgumentLemmas.{by_arguments}
use Rattle.ad_func.proofs.lists.member.Goals as goal

pub returns-in-Ok : goal.returns-in-Ok
returns-in-Ok c = by_arguments _ _ _ (c.in-Ok.ensures member) c.member_value.ensures

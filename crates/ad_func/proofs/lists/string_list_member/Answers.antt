use Rattle.ad_func.specs.Lists.{string_list_member}
use Rattle.ad_func.proofs.ArgumentLemmas.{by_arguments}
use Rattle.ad_func.proofs.lists.string_list_member.Goals as goal

pub returns-in-Ok : goal.returns-in-Ok
returns-in-Ok c = by_arguments _ _ _ (c.in-Ok.ensures string_list_member) c.member_of_pieces.ensures

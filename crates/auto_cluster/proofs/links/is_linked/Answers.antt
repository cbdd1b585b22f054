use Rattle.std.proofs.Common.{◌&&◌, rules, tests}
use Rattle.std.proofs.lemmas.Iterator.{YieldsList-from_slice}
use Rattle.std.proofs.lemmas.Iterator.Search.{any_from_yields_List}
use Rattle.ad_value.specs.Names.{same_name}
use Rattle.auto_cluster.specs.declared.links.Link.{Link}
use Rattle.auto_cluster.proofs.links.is_linked.Goals as goal

pub returns : goal.returns
returns c = any_from_yields_List (λ (l : Link). same_name c.args.from.now l.from && same_name c.args.to.now l.to) _ _ _ c.any.ensures.ran (YieldsList-from_slice c.args.list.now c.iter.ensures.rest) (λ x r q k. search (rules, tests))

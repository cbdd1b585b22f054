use Rattle.std.proofs.Common.{[], ◌<◌, length, arith}
use Rattle.ad_tree.specs.Tree.{no_trees, items}
use Rattle.auto_cluster.proofs.LinkLemmas.{links_more, links_end}
use Rattle.auto_cluster.proofs.references.add_ad.Goals as goal

pub loop-place-preserved : goal.loop-place-preserved
loop-place-preserved c =
    let len = c.len-place-end.ensures.len in
    let lt : c.loop-place.place < length c.args.ad.now = omega arith in
    links_more c.args.list.now.items c.loop-place.list.items c.add_attribute.new.list.items c.args.ad.now c.loop-place.place ([], items no_trees) lt c.loop-place.invariant c.in_ok-add_attribute.ensures

pub returns : goal.returns
returns c =
    let len = c.len-place-end.ensures.len in
    links_end c.args.list.now.items c.loop-place.list.items c.args.ad.now c.loop-place.place (omega arith) c.loop-place.invariant

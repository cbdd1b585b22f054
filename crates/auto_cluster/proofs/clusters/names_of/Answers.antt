use Rattle.std.proofs.Common.{[], ◌<◌, length, ap, ◌∙◌, arith}
use Rattle.std.proofs.lemmas.List.{take_all}
use Rattle.ad_tree.specs.Ad.{names}
use Rattle.ad_tree.specs.Tree.{no_trees, items}
use Rattle.auto_cluster.proofs.Named.{names_more}
use Rattle.auto_cluster.proofs.clusters.names_of.Goals as goal

pub loop-place-preserved : goal.loop-place-preserved
loop-place-preserved c =
    let len = c.len-place-end.ensures.len in
    let lt : c.loop-place.place < length c.args.ad.now = omega arith in
    names_more c.args.ad.now c.loop-place.place ([], items no_trees) c.loop-place.names.items c.add_name.new.names.items lt c.loop-place.invariant c.in_ok-add_name.ensures

pub loop-place-init : goal.loop-place-init
loop-place-init c = c.in_ok-names.ensures.items

pub returns : goal.returns
returns c =
    let len = c.len-place-end.ensures.len in
    c.loop-place.invariant ∙ ap names (take_all c.loop-place.place c.args.ad.now (omega arith))

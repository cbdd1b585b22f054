use Rattle.std.proofs.Common.{[], ◌<◌, length, ◌∙◌, arith}
use Rattle.ad_tree.specs.Tree.{no_trees, items}
use Rattle.auto_cluster.proofs.Named.{all_named, one_named}
use Rattle.auto_cluster.proofs.parts.attributes_named.Goals as goal

pub loop-place-preserved : goal.loop-place-preserved
loop-place-preserved c =
    let len = c.len-place-end.ensures.len in
    let lt : c.loop-place.place < length c.args.job.now = omega arith in
    c.keep_named.ensures ∙ one_named c.args.names.now c.args.job.now c.loop-place.part c.loop-place.place ([], items no_trees) lt c.len-place-end.ensures.distinct c.loop-place.invariant

pub returns : goal.returns
returns c =
    let len = c.len-place-end.ensures.len in
    all_named c.args.names.now c.args.job.now c.loop-place.part c.loop-place.place (omega arith) c.loop-place.invariant

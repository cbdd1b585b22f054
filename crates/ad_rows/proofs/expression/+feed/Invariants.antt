-- What is left leads where the list does.
use Rattle.std.proofs.Common.{◌≡◌, map, drop}
use Rattle.ad_tree.specs.Tree.{tree, trees_of, rest, rests_of}
use Rattle.ad_rows.specs.Digests.{trees_fed, rests_fed}
use Rattle.ad_rows.proofs.expression.+feed.Given as goal

abbrev pub invariant-feed_items-loop-item : goal.invariant-feed_items-loop-item
invariant-feed_items-loop-item l = trees_fed l.fed (trees_of (map tree (drop l.item-index l.item-items))) ≡ trees_fed l.fn.state (trees_of (map tree l.item-items))

abbrev pub invariant-feed_rests-loop-rest : goal.invariant-feed_rests-loop-rest
invariant-feed_rests-loop-rest l = rests_fed l.fed (rests_of (map rest (drop l.rest-index l.rest-items))) ≡ rests_fed l.fn.state (rests_of (map rest l.rest-items))

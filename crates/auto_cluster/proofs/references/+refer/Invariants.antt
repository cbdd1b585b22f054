-- What is still to come gives what all gives.
use Rattle.auto_cluster.specs.Significant.{trees_refer_to, rests_refer_to}
use Rattle.ad_tree.specs.Tree.{trees, trees_of, rests, rests_of}
use Rattle.auto_cluster.proofs.LinkLemmas.{IsLeft, trees_left, rests_left}
use Rattle.auto_cluster.proofs.references.+refer.Given as goal

abbrev pub invariant-add_all-loop-item : goal.invariant-add_all-loop-item
invariant-add_all-loop-item l = IsLeft l.list.items l.fn.list.items l.from (trees_left l.item-items l.item-index) (trees_refer_to (trees_of (trees l.fn.exprs)))

abbrev pub invariant-add_rests-loop-step : goal.invariant-add_rests-loop-step
invariant-add_rests-loop-step l = IsLeft l.list.items l.fn.list.items l.from (rests_left l.step-items l.step-index) (rests_refer_to (rests_of (rests l.fn.rest)))

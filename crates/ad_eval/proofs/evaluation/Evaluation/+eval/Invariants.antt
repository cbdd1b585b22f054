use Rattle.std.proofs.Common.{◌≡◌, ◌≤◌, ◌+◌, ◌++◌, map, drop}
use Rattle.ad_value.specs.Content.{content}
use Rattle.ad_tree.specs.Tree.{tree, trees, trees_of, rest, rests, rests_of}
use Rattle.ad_eval.specs.Evaluation.{mean, mean_on, means}
use Rattle.ad_eval.specs.Size.{tree_size, trees_size, rests_size}
use Rattle.ad_eval.proofs.EvalLemmas.{reach}
use Rattle.ad_eval.proofs.evaluation.Evaluation.+eval.Given as goal

abbrev pub decreases-evaluate : goal.decreases-evaluate
decreases-evaluate l = reach l.self.now + tree_size (tree l.expr.now)

abbrev pub decreases-unary_value : goal.decreases-unary_value
decreases-unary_value l = reach l.self.now + tree_size (tree l.arg.now) + 1

abbrev pub decreases-chain_value : goal.decreases-chain_value
decreases-chain_value l =
    reach l.self.now + tree_size (tree l.first.now) + rests_size (rests_of (rests l.rest.now)) + 1

abbrev pub decreases-choice_value : goal.decreases-choice_value
decreases-choice_value l =
    reach l.self.now + tree_size (tree l.test.now) + tree_size (tree l.yes.now) + tree_size (tree l.no.now) + 1

abbrev pub decreases-value_or_else : goal.decreases-value_or_else
decreases-value_or_else l =
    reach l.self.now + tree_size (tree l.first.now) + tree_size (tree l.other.now) + 1

abbrev pub decreases-call_value : goal.decreases-call_value
decreases-call_value l = reach l.self.now + trees_size (trees_of (trees l.args.now)) + 1

abbrev pub decreases-list_value : goal.decreases-list_value
decreases-list_value l = reach l.self.now + trees_size (trees_of (trees l.exprs.now)) + 1

abbrev pub decreases-take_step : goal.decreases-take_step
decreases-take_step l = reach l.self.now + tree_size (rest l.step.now).1 + 1

abbrev pub decreases-evaluate_all : goal.decreases-evaluate_all
decreases-evaluate_all l = reach l.self.now + trees_size (trees_of (trees l.list.now))

abbrev pub decreases-refer : goal.decreases-refer
decreases-refer l = reach l.self.now

abbrev pub invariant-chain_value-loop-step : goal.invariant-chain_value-loop-step
invariant-chain_value-loop-step l =
    (l.self ≡ l.fn.self)
    × (rests_size (rests_of (map rest (drop l.step-index l.step-items)))
    ≤ rests_size (rests_of (rests l.rest)))
    × (mean_on l.fn.self l.side (mean l.fn.self l.side (tree l.fn.first)) (rests_of (rests l.rest))
    ≡ mean_on l.fn.self l.side (content l.value) (rests_of (map rest (drop l.step-index l.step-items))))

abbrev pub invariant-evaluate_all-loop-item : goal.invariant-evaluate_all-loop-item
invariant-evaluate_all-loop-item l =
    (l.self ≡ l.fn.self)
    × (trees_size (trees_of (map tree (drop l.item-index l.item-items)))
    ≤ trees_size (trees_of (trees l.list)))
    × (means l.fn.self l.side (trees_of (trees l.list))
    ≡ map content l.items.items
    ++ means l.fn.self l.side (trees_of (map tree (drop l.item-index l.item-items))))

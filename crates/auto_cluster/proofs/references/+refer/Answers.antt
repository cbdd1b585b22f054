use Rattle.std.proofs.Common.{◌≡◌, subst, rules}
use Rattle.ad_tree.specs.Tree.{Tree, tree, rest}
use Rattle.ad_tree.specs.declared.tree.Expr.{the_lemmas}
use Rattle.auto_cluster.specs.Links.{HasAlso}
use Rattle.auto_cluster.specs.Significant.{refers_to}
use Rattle.auto_cluster.proofs.LinkLemmas.{trees_begin, trees_more, trees_end, rests_begin, rests_more, rests_end}
use Rattle.auto_cluster.proofs.Referring.{refers_reference, refers_unary, refers_chain, refers_choice, refers_or_else, refers_call, refers_items}
use Rattle.auto_cluster.proofs.references.+refer.Goals as goal

pub add_all-loop-item-init : goal.add_all-loop-item-init
add_all-loop-item-init t c = trees_begin c.args.exprs.now c.deref-item-items.result.now c.args.list.now.items c.args.from.now c.deref-item-items.ensures.value

pub add_all-loop-item-preserved : goal.add_all-loop-item-preserved
add_all-loop-item-preserved t c =
    trees_more c.deref-item-items.result.now c.loop-item.item-index c.item-item.result c.item-item.result c.loop-item.list.items c.add_references.new.list.items c.args.list.now.items c.args.from.now _
    c.loop-item-test.true c.item-item.is c.loop-item.invariant c.in_ok-add_references.ensures

pub add_all-returns : goal.add_all-returns
add_all-returns t c =
    trees_end c.deref-item-items.result.now c.loop-item.item-index c.loop-item.list.items c.args.list.now.items c.args.from.now _
    c.loop-item-test.false c.loop-item.invariant

pub add_rests-loop-step-init : goal.add_rests-loop-step-init
add_rests-loop-step-init t c = rests_begin c.args.rest.now c.deref-step-items.result.now c.args.list.now.items c.args.from.now c.deref-step-items.ensures.value

pub add_rests-loop-step-preserved : goal.add_rests-loop-step-preserved
add_rests-loop-step-preserved t c =
    let same : tree c.step-item.result.arg ≡ (rest c.step-item.result).1 = search (rules, the_lemmas) in
    let added : HasAlso c.loop-step.list.items c.add_references.new.list.items c.args.from.now (refers_to (rest c.step-item.result).1) = subst (λ (e : Tree). HasAlso c.loop-step.list.items c.add_references.new.list.items c.args.from.now (refers_to e)) same c.in_ok-add_references.ensures in
    rests_more c.deref-step-items.result.now c.loop-step.step-index c.step-item.result c.step-item.result c.loop-step.list.items c.add_references.new.list.items c.args.list.now.items c.args.from.now _
    c.loop-step-test.true c.step-item.is c.loop-step.invariant added

pub add_rests-returns : goal.add_rests-returns
add_rests-returns t c =
    rests_end c.deref-step-items.result.now c.loop-step.step-index c.loop-step.list.items c.args.list.now.items c.args.from.now _
    c.loop-step-test.false c.loop-step.invariant

pub add_references-returns-in-Ref : goal.add_references-returns-in-Ref
add_references-returns-in-Ref t c = refers_reference _ _ _ _ _ _ _ _ c.in-Ref.is c.as_str.ensures c.add_link.ensures

pub add_references-returns-in-Unary : goal.add_references-returns-in-Unary
add_references-returns-in-Unary t c = refers_unary _ _ _ _ _ _ _ _ c.in-Unary.is c.deref.ensures c.add_references.ensures

pub add_references-returns-in_ok-add_references-in-Chain : goal.add_references-returns-in_ok-add_references-in-Chain
add_references-returns-in_ok-add_references-in-Chain t c =
    refers_chain _ _ c.add_references-in-Chain.new.list.items _ _ _ _ _ _ c.in-Chain.is c.deref-in-Chain.ensures c.in_ok-add_references-in-Chain.ensures c.add_rests.ensures

pub add_references-returns-in_ok-add_references-in-Cond-2 : goal.add_references-returns-in_ok-add_references-in-Cond-2
add_references-returns-in_ok-add_references-in-Cond-2 t c =
    refers_choice _ _ c.add_references-in-Cond.new.list.items c.add_references-in-Cond-2.new.list.items _ _ _ _ _ _ _ _ _ c.in-Cond.is c.deref-in-Cond.ensures c.deref-in-Cond-2.ensures c.deref-in-Cond-3.ensures
    c.in_ok-add_references-in-Cond.ensures c.in_ok-add_references-in-Cond-2.ensures c.add_references-in-Cond-3.ensures

pub add_references-returns-in_ok-add_references-in-OrElse : goal.add_references-returns-in_ok-add_references-in-OrElse
add_references-returns-in_ok-add_references-in-OrElse t c =
    refers_or_else _ _ c.add_references-in-OrElse.new.list.items _ _ _ _ _ _ _ c.in-OrElse.is c.deref-in-OrElse.ensures c.deref-in-OrElse-2.ensures
    c.in_ok-add_references-in-OrElse.ensures c.add_references-in-OrElse-2.ensures

pub add_references-returns-in-Call : goal.add_references-returns-in-Call
add_references-returns-in-Call t c = refers_call _ _ _ _ _ _ _ c.in-Call.is c.add_all.ensures

pub add_references-returns-in-Items : goal.add_references-returns-in-Items
add_references-returns-in-Items t c = refers_items _ _ _ _ _ _ c.in-Items.is c.add_all-in-Items.ensures

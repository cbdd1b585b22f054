-- A copy has copies of the parts.
use Rattle.std.proofs.Common.{map, ap, sym, ◌∙◌}
use Rattle.ad_tree.specs.Tree.{tree, rest}
use Rattle.ad_tree.proofs.TreeLemmas.{trees-map, rests-map}
use Rattle.ad_tree.proofs.CopyLemmas.{copied_literal, copied_reference, copied_unary, copied_chain, copied_choice, copied_or_else, copied_call, copied_items, trees-made, rests-made, all_copied, more_copied}
use Rattle.ad_tree.proofs.tree.+copy.Goals as goal

pub Expr::copy-returns-in_ok-copy-in-Lit : goal.Expr::copy-returns-in_ok-copy-in-Lit
Expr::copy-returns-in_ok-copy-in-Lit t c = copied_literal _ _ _ c.in-Lit.is c.in_ok-copy-in-Lit.ensures

pub Expr::copy-returns-in_ok-copy-in-Ref : goal.Expr::copy-returns-in_ok-copy-in-Ref
Expr::copy-returns-in_ok-copy-in-Ref t c = copied_reference _ _ _ _ c.in-Ref.is c.in_ok-copy-in-Ref.ensures

pub Expr::copy-returns-in_ok-copy_boxed-in-Unary : goal.Expr::copy-returns-in_ok-copy_boxed-in-Unary
Expr::copy-returns-in_ok-copy_boxed-in-Unary t c = copied_unary _ _ _ _ c.in-Unary.is (c.in_ok-copy_boxed-in-Unary.ensures ∙ ap tree c.deref.ensures)

pub Expr::copy-returns-in_ok-copy-in-Chain : goal.Expr::copy-returns-in_ok-copy-in-Chain
Expr::copy-returns-in_ok-copy-in-Chain t c = copied_chain _ _ _ _ _ c.in-Chain.is (c.in_ok-copy_boxed-in-Chain.ensures ∙ ap tree c.deref-in-Chain.ensures) c.in_ok-copy-in-Chain.ensures

pub Expr::copy-returns-in_ok-copy_boxed-in-Cond-3 : goal.Expr::copy-returns-in_ok-copy_boxed-in-Cond-3
Expr::copy-returns-in_ok-copy_boxed-in-Cond-3 t c = copied_choice _ _ _ _ _ _ _ c.in-Cond.is (c.in_ok-copy_boxed-in-Cond.ensures ∙ ap tree c.deref-in-Cond.ensures) (c.in_ok-copy_boxed-in-Cond-2.ensures ∙ ap tree c.deref-in-Cond-2.ensures) (c.in_ok-copy_boxed-in-Cond-3.ensures ∙ ap tree c.deref-in-Cond-3.ensures)

pub Expr::copy-returns-in_ok-copy_boxed-in-OrElse-2 : goal.Expr::copy-returns-in_ok-copy_boxed-in-OrElse-2
Expr::copy-returns-in_ok-copy_boxed-in-OrElse-2 t c = copied_or_else _ _ _ _ _ c.in-OrElse.is (c.in_ok-copy_boxed-in-OrElse.ensures ∙ ap tree c.deref-in-OrElse.ensures) (c.in_ok-copy_boxed-in-OrElse-2.ensures ∙ ap tree c.deref-in-OrElse-2.ensures)

pub Expr::copy-returns-in_ok-copy-in-Call-2 : goal.Expr::copy-returns-in_ok-copy-in-Call-2
Expr::copy-returns-in_ok-copy-in-Call-2 t c = copied_call _ _ _ _ _ c.in-Call.is c.in_ok-copy-in-Call.ensures c.in_ok-copy-in-Call-2.ensures

pub Expr::copy-returns-in_ok-copy-in-Items : goal.Expr::copy-returns-in_ok-copy-in-Items
Expr::copy-returns-in_ok-copy-in-Items t c = copied_items _ _ _ c.in-Items.is c.in_ok-copy-in-Items.ensures

pub Expr::copy_boxed-returns : goal.Expr::copy_boxed-returns
Expr::copy_boxed-returns t c = ap tree c.in_ok-new.ensures.ok ∙ c.in_ok-copy.ensures

pub ExprList::copy-loop-item-preserved : goal.ExprList::copy-loop-item-preserved
ExprList::copy-loop-item-preserved t c = more_copied tree tree _ _ _ _ _ _ c.loop-item-test.true c.item-item.is c.in_ok-push.ensures.items c.in_ok-copy.ensures c.loop-item.invariant

pub ExprList::copy-returns : goal.ExprList::copy-returns
ExprList::copy-returns t c = trees-made _ ∙ all_copied tree _ _ _ c.loop-item-test.false c.loop-item.invariant ∙ ap (map tree) c.deref-item-items.ensures.value ∙ sym (trees-map c.args.self.now)

pub RestList::copy-loop-item-preserved : goal.RestList::copy-loop-item-preserved
RestList::copy-loop-item-preserved t c = more_copied rest rest _ _ _ _ _ _ c.loop-item-test.true c.item-item.is c.in_ok-push.ensures.items c.in_ok-copy.ensures c.loop-item.invariant

pub RestList::copy-returns : goal.RestList::copy-returns
RestList::copy-returns t c = rests-made _ ∙ all_copied rest _ _ _ c.loop-item-test.false c.loop-item.invariant ∙ ap (map rest) c.deref-item-items.ensures.value ∙ sym (rests-map c.args.self.now)

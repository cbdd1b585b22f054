-- Each turn adds one operand or item more, and at the end there are all of them. An expression's
-- pieces, one behind the other, are its text.
use Rattle.std.proofs.Common.{◌≡◌, ◌+◌, ◌++◌, ◌-◌, min, [], length, map, take, get_or, arith, rules, sym, ap, ◌∙◌}
use Rattle.std.proofs.lemmas.List.{take_all}
use Rattle.ad_tree.specs.declared.tree.Expr.{the_lemmas}
use Rattle.ad_tree.specs.Tree.{tree, trees_of, rest, rests_of}
use Rattle.ad_parse.specs.Canon.{canon, canon_rests, canon_items, canon_within, looseness}
use Rattle.ad_parse.proofs.CanonLemmas.{trees-map, rests-map, rest_text, rests_more, items_more}
use Rattle.ad_parse.proofs.Counted.{chain_counted, choice_counted, or_else_counted, call_counted, items_counted}
use Rattle.ad_parse.proofs.Sizes.{item_grown, rest_grown}
use Rattle.ad_parse.proofs.Written.{chain_is, choice_is, or_else_is}
use Rattle.ad_parse.proofs.size.+size.Goals as goal

pub add_items-loop-i-preserved : goal.add_items-loop-i-preserved
add_items-loop-i-preserved t c =
    let here = c.item-item.is ∙ ap (λ l. get_or l c.loop-i.i c.item-item.result) c.deref-item-items.ensures.value in
    let front = canon_items (trees_of (map tree (take c.loop-i.i c.args.list.now.items.items))) in
    item_grown _ _ _ _ front c.item_separator.result.now (canon (tree c.item-item.result)) _ c.loop-i.invariant c.add_text-before.ensures c.add_expr-total.ensures
    (ap (λ l. (front ++ l) ++ canon (tree c.item-item.result)) c.item_separator.ensures ∙ items_more [] c.args.list.now.items.items c.loop-i.i c.item-item.result (omega arith) here)

pub add_items-returns : goal.add_items-returns
add_items-returns t c =
    let all = ap (map tree) (take_all c.loop-i.i c.args.list.now.items.items (omega arith)) ∙ sym (trees-map c.args.list.now) in
    c.loop-i.invariant ∙ ap (λ es. min (c.args.size + length (canon_items (trees_of es))) 18446744073709551615) all

pub add_rests-loop-rest-preserved : goal.add_rests-loop-rest-preserved
add_rests-loop-rest-preserved t c =
    let item = c.rest-item.result in
    let pair : rest item ≡ (item.op, tree item.arg) = search (rules, the_lemmas) in
    let front = canon_rests (rests_of (map rest (take c.loop-rest.rest-index c.deref-rest-items.result.now))) in
    let arg = canon_within (c.level_of.result - 1) (looseness (tree item.arg)) (canon (tree item.arg)) in
    let one : c.infix_text.result.now ++ arg ≡ rest_text (rest item) =
    (λ i. c.infix_text.ensures i ++ canon_within (c.level_of.ensures i - 1) (looseness (tree item.arg)) (canon (tree item.arg))) ∙ ap rest_text (sym pair) in
    rest_grown _ _ _ _ front c.infix_text.result.now arg _ c.loop-rest.invariant c.add_text-before.ensures c.add_within-total.ensures
    (ap (λ l. front ++ l) one ∙ rests_more [] c.deref-rest-items.result.now c.loop-rest.rest-index item (omega arith) c.rest-item.is)

pub add_rests-returns : goal.add_rests-returns
add_rests-returns t c =
    let all = take_all c.loop-rest.rest-index c.deref-rest-items.result.now (omega arith) ∙ c.deref-rest-items.ensures.value in
    c.loop-rest.invariant ∙ ap (λ rs. min (c.args.size + length (canon_rests (rests_of rs))) 18446744073709551615) (ap (map rest) all ∙ sym (rests-map c.args.list.now))

pub add_expr-returns-in-Chain : goal.add_expr-returns-in-Chain
add_expr-returns-in-Chain t c =
    chain_counted c.args.size _ _ _ _ _ _ (chain_is _ _ _ _ c.in-Chain.is c.deref-in-Chain.ensures) (c.saturating_sub.ensures ∙ ap (λ n. n - 1) c.rests_level.ensures) c.add_within-size.ensures c.add_rests.ensures

pub add_expr-returns-in-Cond : goal.add_expr-returns-in-Cond
add_expr-returns-in-Cond t c =
    choice_counted c.args.size _ _ _ _ _ _ _ _ _ (choice_is _ _ _ _ _ _ _ c.in-Cond.is c.deref-in-Cond.ensures c.deref-in-Cond-2.ensures c.deref-in-Cond-3.ensures) c.add_within-in-Cond.ensures c.add_text-size.ensures c.add_expr.ensures c.add_text-size-in-Cond.ensures c.add_expr-in-Cond.ensures

pub add_expr-returns-in-OrElse : goal.add_expr-returns-in-OrElse
add_expr-returns-in-OrElse t c =
    or_else_counted c.args.size _ _ _ _ _ _ (or_else_is _ _ _ _ _ c.in-OrElse.is c.deref-in-OrElse.ensures c.deref-in-OrElse-2.ensures) c.add_within-in-OrElse.ensures c.add_text-size-in-OrElse.ensures c.add_expr-in-OrElse.ensures

pub add_expr-returns-in-Call : goal.add_expr-returns-in-Call
add_expr-returns-in-Call t c =
    call_counted c.args.size _ _ _ _ _ _ _ c.in-Call.is (c.add_text-in-Call.ensures ∙ ap (λ x. min (c.args.size + length x) 18446744073709551615) c.as_str-in-Call.ensures) c.add_text-size-in-Call.ensures c.add_items.ensures c.add_text-in-Call-2.ensures

pub add_expr-returns-in-Items : goal.add_expr-returns-in-Items
add_expr-returns-in-Items t c =
    items_counted c.args.size _ _ _ _ _ c.in-Items.is c.add_text-in-Items.ensures c.add_items-in-Items.ensures c.add_text-in-Items-2.ensures

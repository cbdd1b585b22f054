-- Each turn writes one operand or item more, and at the end there are all of them. An expression's
-- pieces, one behind the other, are its text.
use Rattle.std.proofs.Common.{◌≡◌, arith, rules, sym, ap, ◌∙◌, ◌++◌, ◌-◌, string_bytes, map, take, get_or, append_assoc}
use Rattle.std.proofs.lemmas.List.{take_all}
use Rattle.ad_value.specs.Literal.{item_separator}
use Rattle.ad_tree.specs.declared.tree.Expr.{the_lemmas}
use Rattle.ad_tree.specs.Tree.{tree, trees_of, rest, rests_of}
use Rattle.ad_parse.specs.Operators.{level_of}
use Rattle.ad_parse.specs.Canon.{canon, canon_rests, canon_items, canon_within, looseness, infix_text}
use Rattle.ad_parse.proofs.CanonLemmas.{trees-map, rests-map, rest_text, rests_more, items_more}
use Rattle.ad_parse.proofs.Written.{on_ok, unary_is, chain_is, choice_is, or_else_is, unary_written, chain_written, choice_written, or_else_written, call_written, items_written}
use Rattle.ad_parse.proofs.print.+write.Goals as goal

pub write_items-loop-i-preserved : goal.write_items-loop-i-preserved
write_items-loop-i-preserved t c =
    let here = c.item-item.is ∙ ap (λ l. get_or l c.loop-i.i c.item-item.result) c.deref-item-items.ensures.value in
    c.in_ok-write_expr.ensures ∙ ap (λ l. l ++ canon (tree c.item-item.result)) (c.in_ok-write_item_separator.ensures.ok ∙ ap (λ l. l ++ item_separator c.loop-i.i) c.loop-i.invariant) ∙ items_more (string_bytes c.args.text.now) c.args.list.now.items.items c.loop-i.i c.item-item.result (omega arith) here

pub write_items-returns : goal.write_items-returns
write_items-returns t c =
    c.loop-i.invariant ∙ ap (λ es. string_bytes c.args.text.now ++ canon_items (trees_of es)) (ap (map tree) (take_all c.loop-i.i c.args.list.now.items.items (omega arith)) ∙ sym (trees-map c.args.list.now))

pub write_rests-loop-rest-preserved : goal.write_rests-loop-rest-preserved
write_rests-loop-rest-preserved t c =
    let pair : rest c.rest-item.result ≡ (c.rest-item.result.op, tree c.rest-item.result.arg) = search (rules, the_lemmas) in
    let front = string_bytes c.args.text.now ++ canon_rests (rests_of (map rest (take c.loop-rest.rest-index c.deref-rest-items.result.now))) in
    rw (c.in_ok-write_within.ensures, c.in_ok-push_str.ensures.bytes, c.infix_text.ensures, c.level_of.ensures, c.loop-rest.invariant)
    (append_assoc front (infix_text c.rest-item.result.op) (canon_within (level_of c.rest-item.result.op - 1) (looseness (tree c.rest-item.result.arg)) (canon (tree c.rest-item.result.arg))) ∙ ap (λ r. front ++ rest_text r) (sym pair) ∙ rests_more (string_bytes c.args.text.now) c.deref-rest-items.result.now c.loop-rest.rest-index c.rest-item.result (omega arith) c.rest-item.is)

pub write_rests-returns : goal.write_rests-returns
write_rests-returns t c =
    let all = take_all c.loop-rest.rest-index c.deref-rest-items.result.now (omega arith) ∙ c.deref-rest-items.ensures.value in
    c.loop-rest.invariant ∙ ap (λ rs. string_bytes c.args.text.now ++ canon_rests (rests_of rs)) (ap (map rest) all ∙ sym (rests-map c.args.list.now))

pub write_expr-returns-in_ok-push_str-in-Unary : goal.write_expr-returns-in_ok-push_str-in-Unary
write_expr-returns-in_ok-push_str-in-Unary t c =
    on_ok c.write_within.result
    (unary_written _ _ _ _ _ _ (unary_is _ _ _ _ c.in-Unary.is c.deref.ensures) (c.in_ok-push_str-in-Unary.ensures.bytes ∙ ap (λ x. string_bytes c.args.text.now ++ x) c.prefix_text.ensures))
    c.write_within.ensures

pub write_expr-returns-in_ok-write_within-in-Chain : goal.write_expr-returns-in_ok-write_within-in-Chain
write_expr-returns-in_ok-write_within-in-Chain t c =
    on_ok c.write_rests.result
    (chain_written _ _ _ _ _ _ _ (chain_is _ _ _ _ c.in-Chain.is c.deref-in-Chain.ensures) (c.saturating_sub.ensures ∙ ap (λ n. n - 1) c.rests_level.ensures) c.in_ok-write_within-in-Chain.ensures)
    c.write_rests.ensures

pub write_expr-returns-in_ok-push_str-in-Cond-2 : goal.write_expr-returns-in_ok-push_str-in-Cond-2
write_expr-returns-in_ok-push_str-in-Cond-2 t c =
    on_ok c.write_expr-in-Cond.result
    (choice_written _ _ _ _ _ _ _ _ _ _ (choice_is _ _ _ _ _ _ _ c.in-Cond.is c.deref-in-Cond.ensures c.deref-in-Cond-2.ensures c.deref-in-Cond-3.ensures) c.in_ok-write_within-in-Cond.ensures c.in_ok-push_str-in-Cond.ensures.bytes c.in_ok-write_expr-in-Cond.ensures c.in_ok-push_str-in-Cond-2.ensures.bytes)
    c.write_expr-in-Cond.ensures

pub write_expr-returns-in_ok-push_str-in-OrElse : goal.write_expr-returns-in_ok-push_str-in-OrElse
write_expr-returns-in_ok-push_str-in-OrElse t c =
    on_ok c.write_expr-in-OrElse.result
    (or_else_written _ _ _ _ _ _ _ (or_else_is _ _ _ _ _ c.in-OrElse.is c.deref-in-OrElse.ensures c.deref-in-OrElse-2.ensures) c.in_ok-write_within-in-OrElse.ensures c.in_ok-push_str-in-OrElse.ensures.bytes)
    c.write_expr-in-OrElse.ensures

pub write_expr-returns-in_ok-push_str-in-Call-3 : goal.write_expr-returns-in_ok-push_str-in-Call-3
write_expr-returns-in_ok-push_str-in-Call-3 t c =
    call_written _ _ _ _ _ _ _ _ c.in-Call.is
    (c.in_ok-push_str-in-Call.ensures.bytes ∙ ap (λ x. string_bytes c.args.text.now ++ x) c.as_str.ensures)
    c.in_ok-push_str-in-Call-2.ensures.bytes c.in_ok-write_items-in-Call.ensures c.in_ok-push_str-in-Call-3.ensures.bytes

pub write_expr-returns-in_ok-push_str-in-Items-2 : goal.write_expr-returns-in_ok-push_str-in-Items-2
write_expr-returns-in_ok-push_str-in-Items-2 t c =
    items_written _ _ _ _ _ _ c.in-Items.is c.in_ok-push_str-in-Items.ensures.bytes c.in_ok-write_items-in-Items.ensures c.in_ok-push_str-in-Items-2.ensures.bytes

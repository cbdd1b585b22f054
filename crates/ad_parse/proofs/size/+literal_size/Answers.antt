-- Each turn adds one item more, and at the end there are all of them.
use Rattle.std.proofs.Common.{◌≡◌, ◌+◌, ◌++◌, min, [], length, map, take, get_or, arith, rules, sym, ap, ◌∙◌}
use Rattle.std.proofs.lemmas.List.{take_all}
use Rattle.ad_value.specs.declared.value.Value.{the_lemmas}
use Rattle.ad_value.specs.Content.{content, contents, contents_of}
use Rattle.ad_value.specs.Literal.{literal_text, items_text}
use Rattle.ad_value.proofs.LiteralLemmas.{items_text_more}
use Rattle.ad_parse.proofs.Sizes.{item_grown}
use Rattle.ad_parse.proofs.size.+literal_size.Goals as goal

pub add_literals-loop-i-preserved : goal.add_literals-loop-i-preserved
add_literals-loop-i-preserved t c =
    let here = c.item-item.is ∙ ap (λ l. get_or l c.loop-i.i c.item-item.result) c.deref-item-items.ensures.value in
    let front = items_text (contents_of (map content (take c.loop-i.i c.args.list.now.items.items))) in
    item_grown _ _ _ _ front c.item_separator.result.now (literal_text (content c.item-item.result)) _ c.loop-i.invariant c.add_text-before.ensures c.add_literal-total.ensures
    (ap (λ l. (front ++ l) ++ literal_text (content c.item-item.result)) c.item_separator.ensures ∙ items_text_more [] c.args.list.now.items.items c.loop-i.i c.item-item.result (omega arith) here)

pub add_literals-returns : goal.add_literals-returns
add_literals-returns t c =
    let same : contents c.args.list.now ≡ map content c.args.list.now.items.items = search (rules, the_lemmas) in
    let all = ap (map content) (take_all c.loop-i.i c.args.list.now.items.items (omega arith)) ∙ sym same in
    c.loop-i.invariant ∙ ap (λ cs. min (c.args.size + length (items_text (contents_of cs))) 18446744073709551615) all

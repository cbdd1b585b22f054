-- Each turn writes one item more, and at the end there are all of them.
use Rattle.std.proofs.Common.{arith, sym, ap, ◌∙◌, ◌++◌, string_bytes, map, get_or}
use Rattle.std.proofs.lemmas.List.{take_all}
use Rattle.ad_value.specs.Content.{content, contents_of}
use Rattle.ad_value.specs.Literal.{literal_text, items_text, item_separator}
use Rattle.ad_value.proofs.ContentLemmas.{contents-map}
use Rattle.ad_value.proofs.LiteralLemmas.{items_text_more}
use Rattle.ad_value.proofs.ValueLemmas.{items_written}
use Rattle.ad_value.proofs.value.+write.Goals as goal

pub ValueList::write-loop-i-preserved : goal.ValueList::write-loop-i-preserved
ValueList::write-loop-i-preserved t c =
    let here = c.item-item.is ∙ ap (λ l. get_or l c.loop-i.i c.item-item.result) c.deref-item-items.ensures.value in
    c.in_ok-write.ensures ∙ ap (λ l. l ++ literal_text (content c.item-item.result)) (c.in_ok-write_item_separator.ensures.ok ∙ ap (λ l. l ++ item_separator c.loop-i.i) c.loop-i.invariant) ∙ items_text_more (string_bytes c.args.text.now) c.args.self.now.items.items c.loop-i.i c.item-item.result (omega arith) here

pub ValueList::write-returns : goal.ValueList::write-returns
ValueList::write-returns t c =
    c.loop-i.invariant ∙ ap (λ cs. string_bytes c.args.text.now ++ items_text (contents_of cs)) (ap (map content) (take_all c.loop-i.i c.args.self.now.items.items (omega arith)) ∙ sym (contents-map c.args.self.now))

pub Value::write-returns-in_ok-push_str-in-List-2 : goal.Value::write-returns-in_ok-push_str-in-List-2
Value::write-returns-in_ok-push_str-in-List-2 t c = items_written _ _ _ _ _ _ c.in-List.is c.in_ok-push_str-in-List.ensures.bytes c.in_ok-write-in-List.ensures c.in_ok-push_str-in-List-2.ensures.bytes

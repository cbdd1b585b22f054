-- A copy has copies of the items.
use Rattle.std.proofs.Common.{map, ap, sym, ◌∙◌}
use Rattle.ad_value.specs.Content.{content}
use Rattle.ad_value.proofs.ContentLemmas.{contents-map}
use Rattle.ad_value.proofs.ValueLemmas.{copied_items, contents-made, all_copied, content_more}
use Rattle.ad_value.proofs.value.+copy.Goals as goal

pub Value::copy-returns-in_ok-copy-in-List : goal.Value::copy-returns-in_ok-copy-in-List
Value::copy-returns-in_ok-copy-in-List t c = copied_items _ _ _ c.in-List.is c.in_ok-copy-in-List.ensures

pub ValueList::copy-loop-item-preserved : goal.ValueList::copy-loop-item-preserved
ValueList::copy-loop-item-preserved t c = content_more _ _ _ _ _ _ c.loop-item-test.true c.item-item.is c.in_ok-push.ensures.items c.in_ok-copy.ensures c.loop-item.invariant

pub ValueList::copy-returns : goal.ValueList::copy-returns
ValueList::copy-returns t c =
    contents-made _
    ∙ all_copied content _ _ _ c.loop-item-test.false c.loop-item.invariant
    ∙ ap (map content) c.deref-item-items.ensures.value
    ∙ sym (contents-map c.args.self.now)

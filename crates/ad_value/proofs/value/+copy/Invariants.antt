-- The copy so far has the contents of the items so far.
use Rattle.std.proofs.Common.{◌≡◌, map, take}
use Rattle.ad_value.specs.Content.{content}
use Rattle.ad_value.proofs.value.+copy.Given as goal

abbrev pub invariant-ValueList::copy-loop-item : goal.invariant-ValueList::copy-loop-item
invariant-ValueList::copy-loop-item l = map content l.items.items ≡ map content (take l.item-index l.item-items)

-- No item so far is equal.
use Rattle.std.proofs.Common.{◌≡◌, false, map, take}
use Rattle.ad_value.specs.Content.{content}
use Rattle.ad_func.specs.Lists.{has_equal}
use Rattle.ad_func.proofs.lists.has_equal.Given as goal

abbrev pub invariant-loop-item : goal.invariant-loop-item
invariant-loop-item l = has_equal (content l.x) (map content (take l.item-index l.items)) ≡ false

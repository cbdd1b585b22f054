-- Both lists have one length, and the same contents so far.
use Rattle.std.proofs.Common.{◌≡◌, map, take, length}
use Rattle.ad_value.specs.Content.{content}
use Rattle.ad_value.proofs.value.+same.Given as goal

abbrev pub invariant-ValueList::same-loop-i : goal.invariant-ValueList::same-loop-i
invariant-ValueList::same-loop-i l =
    (length l.self.items.items ≡ length l.other.items.items) × (map content (take l.i l.self.items.items) ≡ map content (take l.i l.other.items.items))

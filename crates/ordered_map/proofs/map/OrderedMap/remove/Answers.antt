use Rattle.std.proofs.Common.{List, sym, subst}
use Rattle.std.specs.List.Sorted.{IsStrictlySortedBy}
use Rattle.std.specs.Map.{keys_of}
use Rattle.ordered_map.proofs.Orders.{sorted_removed}
use Rattle.ordered_map.proofs.map.OrderedMap.remove.Goals as goal

pub invariant_of-self : goal.invariant_of-self
invariant_of-self g c =
    subst (λ (es : List _). IsStrictlySortedBy g.K.Ord.cmp (keys_of es)) (sym c.remove.ensures.rest) (sorted_removed g.K.Ord.cmp _ _ c.self.invariant)

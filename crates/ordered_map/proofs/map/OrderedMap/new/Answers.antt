use Rattle.ordered_map.proofs.Orders.{sorted_none}
use Rattle.ordered_map.proofs.map.OrderedMap.new.Goals as goal

pub invariant_of-result : goal.invariant_of-result
invariant_of-result g c = sorted_none g.K.Ord.cmp c.new.result c.new.ensures

use Rattle.std.proofs.Common.{◌-◌, ◌≤◌, length}
use Rattle.negotiate.specs.Parties.{AreUnmade}
use Rattle.negotiate.proofs.quick.no_lists.Given as goal

abbrev pub invariant-loop-lists : goal.invariant-loop-lists
invariant-loop-lists l = record {
  unmade : AreUnmade l.lists.items (length l.lists.items);
  within : length l.lists.items ≤ l.count;
}

abbrev pub decreases-loop-lists : goal.decreases-loop-lists
decreases-loop-lists l = l.count - length l.lists.items

use Rattle.std.proofs.Common.{◌≡◌, ◌+◌, ◌≤◌, take}
use Rattle.negotiate.specs.Grouped.{list_for, all_ranked}
use Rattle.negotiate.proofs.grouping.judge_all.Given as goal

abbrev pub invariant-loop-slot : goal.invariant-loop-slot
invariant-loop-slot g l = record {
  list : all_ranked l.list.items ≡ list_for l.snapshot.now (take l.slot-index l.slots) l.made l.request;
  cost : l.steps ≤ l.fn.steps + l.slot-index;
}

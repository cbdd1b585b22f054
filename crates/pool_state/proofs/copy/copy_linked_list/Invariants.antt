-- The items so far.
use Rattle.std.proofs.Common.{◌≡◌, map}
use Rattle.pool_state.proofs.copy.copy_linked_list.Given as goal

abbrev pub invariant-loop-item : goal.invariant-loop-item
invariant-loop-item g l = l.copied ≡ map (λ item. item.now) l.yielded

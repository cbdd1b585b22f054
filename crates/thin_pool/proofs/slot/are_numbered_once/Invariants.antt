-- The slots are numbered once where those that are left are.
use Rattle.std.proofs.Common.{◌↔◌, length}
use Rattle.thin_pool.specs.PoolValue.{AreNumberedOnce}
use Rattle.thin_pool.proofs.slot.are_numbered_once.Given as goal

abbrev pub invariant-slots : goal.invariant-slots
invariant-slots l = AreNumberedOnce l.slots ↔ AreNumberedOnce l.rest

abbrev pub decreases-slots : goal.decreases-slots
decreases-slots l = length l.rest

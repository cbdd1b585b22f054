-- The ads of the slots so far.
use Rattle.std.proofs.Common.{◌≡◌, take}
use Rattle.thin_pool.specs.Reactions.{slot_ads}
use Rattle.thin_pool.proofs.slot.slot_ads.Given as goal

abbrev pub invariant-loop-slot : goal.invariant-loop-slot
invariant-loop-slot l = l.ads ≡ slot_ads (take l.slot-index l.slots)

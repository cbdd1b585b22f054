-- The ads are the slots' where those that are left are those of the slots that are left.
use Rattle.std.proofs.Common.{◌≡◌, ◌↔◌, drop}
use Rattle.thin_pool.specs.Reactions.{slot_ads}
use Rattle.thin_pool.proofs.slot.are_slot_ads.Given as goal

abbrev pub invariant-loop-slot : goal.invariant-loop-slot
invariant-loop-slot l = (l.ads ≡ slot_ads l.slots) ↔ (l.left ≡ slot_ads (drop l.slot-index l.slots))

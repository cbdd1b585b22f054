use Rattle.std.proofs.Common.{◌≡◌, map, take}
use Rattle.negotiate.proofs.quick.slot_ads.Given as goal

abbrev pub invariant-loop-slot : goal.invariant-loop-slot
invariant-loop-slot l = l.ads.items ≡ map (λ o. o.ad) (take l.slot-index l.slots)

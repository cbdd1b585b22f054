-- What follows all ads is what follows those that are left.
use Rattle.std.proofs.Common.{◌≡◌, ◌↔◌, ◌++◌, List, drop}
use Rattle.ad_tree.specs.Ad.{Attributes}
use Rattle.pool_shown.specs.Slots.{ads_of}
use Rattle.pool_shown.proofs.ads.ads_after.Given as goal

abbrev pub invariant-loop-slot : goal.invariant-loop-slot
invariant-loop-slot l = (more : List Attributes) → (l.ads ≡ ads_of l.slots ++ more)
    ↔ (l.left ≡ ads_of (drop l.slot-index l.slots) ++ more)

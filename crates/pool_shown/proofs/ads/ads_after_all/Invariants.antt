-- What follows all ads is what follows those that are left.
use Rattle.std.proofs.Common.{◌≡◌, ◌↔◌, ◌++◌, List, drop}
use Rattle.ad_tree.specs.Ad.{Attributes}
use Rattle.pool_shown.specs.Slots.{slot_ads}
use Rattle.pool_shown.proofs.ads.ads_after_all.Given as goal

abbrev pub invariant-loop-startd : goal.invariant-loop-startd
invariant-loop-startd l = (more : List Attributes) → (l.ads ≡ slot_ads l.startds ++ more)
    ↔ (l.left ≡ slot_ads (drop l.startd-index l.startds) ++ more)

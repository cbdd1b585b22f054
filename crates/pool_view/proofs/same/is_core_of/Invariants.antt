-- The core is that of the ad where its rest is that of what is left of the ad.
use Rattle.std.proofs.Common.{◌≡◌, ◌↔◌, ◌≤◌, length, drop}
use Rattle.pool_view.specs.Ads.{core_of}
use Rattle.pool_view.proofs.same.is_core_of.Given as goal

abbrev pub invariant-loop-own : goal.invariant-loop-own
invariant-loop-own l = (l.place ≤ length l.core) × ((l.core ≡ core_of l.ad) ↔ (drop l.place l.core ≡ core_of (drop l.own l.ad)))

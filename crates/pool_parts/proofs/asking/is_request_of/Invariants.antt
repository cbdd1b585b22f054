-- The request is that of the ad where its rest is that of what is left of the ad.
use Rattle.std.proofs.Common.{◌≡◌, ◌↔◌, ◌≤◌, length, drop}
use Rattle.pool_mail.specs.Ads.{request_ad}
use Rattle.pool_parts.proofs.asking.is_request_of.Given as goal

abbrev pub invariant-loop-own : goal.invariant-loop-own
invariant-loop-own l = (l.place ≤ length l.request) × ((l.request ≡ request_ad l.ad) ↔ (drop l.place l.request ≡ request_ad (drop l.own l.ad)))

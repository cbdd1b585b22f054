-- The size so far, with the ads that are left, is the size with all.
use Rattle.std.proofs.Common.{◌≡◌, ◌+◌, ◌≤◌, min, drop}
use Rattle.pool_parts.specs.Sizes.{ads_count}
use Rattle.pool_parts.proofs.size.add_ads.Given as goal

abbrev pub invariant-loop-ad : goal.invariant-loop-ad
invariant-loop-ad l = (min (l.total + ads_count (drop l.ad-index l.ads)) 18446744073709551615
    ≡ min (l.size + ads_count l.ads) 18446744073709551615)
    × (l.total ≤ 18446744073709551615)

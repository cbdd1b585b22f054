use Rattle.std.proofs.lemmas.List.{at_drop_all}
use Rattle.pool_parts.specs.Sizes.{ads_count}
use Rattle.pool_parts.proofs.Counted.{counted}
use Rattle.pool_parts.proofs.size.add_ads.Goals as goal

pub returns : goal.returns
returns c = counted _ _ _ (at_drop_all ads_count c.args.ads.now c.loop-ad.ad-index c.loop-ad-test.false) c.loop-ad.invariant

use Rattle.thin_pool.proofs.Same.{told_ad}
use Rattle.thin_pool.proofs.ads.is_same.Goals as goal

pub returns : goal.returns
returns c = told_ad c.same.result c.args.ad.now c.args.other.now c.same.ensures

use Rattle.std.proofs.Common.{ap}
use Rattle.std.specs.Prelude.{nat_le}
use Rattle.matchmaker.proofs.kept.KeptAd.is_fresh.Goals as goal

pub returns : goal.returns
returns c = ap (λ age. nat_le age c.args.lifetime) c.saturating_sub.ensures

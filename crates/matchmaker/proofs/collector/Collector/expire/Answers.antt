use Rattle.std.proofs.Common.{sym, subst}
use Rattle.matchmaker.specs.Kept.{AreKept}
use Rattle.matchmaker.proofs.Named.{filter_kept}
use Rattle.matchmaker.proofs.collector.Collector.expire.Goals as goal

pub invariant_of-self : goal.invariant_of-self
invariant_of-self c = subst AreKept (sym c.retain_fresh.ensures) (filter_kept _ c.self.inside.kept.items c.self.invariant)

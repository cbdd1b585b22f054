use Rattle.std.proofs.Common.{sym, subst}
use Rattle.matchmaker.specs.Kept.{AreKept}
use Rattle.matchmaker.proofs.Named.{none_kept}
use Rattle.matchmaker.proofs.collector.Collector.new.Goals as goal

pub invariant_of-result : goal.invariant_of-result
invariant_of-result c = subst AreKept (sym c.new.ensures.items) none_kept

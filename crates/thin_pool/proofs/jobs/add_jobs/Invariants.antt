-- The table has the jobs before this one; there is room for what is left, whose numbers are new.
use Rattle.std.proofs.Common.{◌++◌}
use Rattle.indexmap.specs.IndexMap.{spare}
use Rattle.thin_pool.specs.Reactions.{numbered_jobs}
use Rattle.thin_pool.proofs.Adding.{Adds}
use Rattle.thin_pool.proofs.jobs.add_jobs.Given as goal

abbrev pub invariant-loop-ad : goal.invariant-loop-ad
invariant-loop-ad l =
    (goal.iterator-loop-ad).can_next l.ad-iterator ×
    (goal.iterator-loop-ad).is_finite l.ad-iterator ×
    Adds l.jobs.entries (spare l.jobs) l.cluster l.proc l.ad-iterator.rest.items (l.fn.jobs.entries ++ numbered_jobs l.cluster 0 l.fn.ads.items)

-- The jobs so far, with those yet to come, are all.
use Rattle.pool_parts.proofs.InOrder.{IsListed, later_count}
use Rattle.pool_parts.proofs.listing.jobs_of_kind.Given as goal

abbrev pub invariant-listing : goal.invariant-listing
invariant-listing l = IsListed l.kind l.queue l.last l.jobs.items

abbrev pub decreases-listing : goal.decreases-listing
decreases-listing l = later_count l.last l.queue

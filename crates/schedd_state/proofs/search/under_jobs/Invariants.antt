-- The jobs so far, with those yet to come, are all.
use Rattle.schedd_state.proofs.Listing.{IsListed, later_count}
use Rattle.schedd_state.proofs.search.under_jobs.Given as goal

abbrev pub invariant-under : goal.invariant-under
invariant-under l = IsListed l.queue l.last l.jobs.items

abbrev pub decreases-under : goal.decreases-under
decreases-under l = later_count l.last l.queue

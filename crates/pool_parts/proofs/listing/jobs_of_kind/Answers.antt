use Rattle.std.proofs.Common.{rules, ◌≡◌, false, is_some}
use Rattle.pool_parts.proofs.InOrder.{listed_end}
use Rattle.pool_parts.proofs.listing.jobs_of_kind.Goals as goal

pub returns : goal.returns
returns c =
    let end : is_some c.next_job.result ≡ false = search rules in
    listed_end c.args.kind c.args.queue.now c.listing.last c.listing.jobs.items c.next_job.result c.listing.invariant
    c.next_job.ensures end

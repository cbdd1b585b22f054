use Rattle.std.proofs.Common.{rules, ◌≡◌, false, is_some}
use Rattle.schedd_state.proofs.Listing.{listed_end}
use Rattle.schedd_state.proofs.search.under_jobs.Goals as goal

pub returns : goal.returns
returns c =
    let end : is_some c.next_under.result ≡ false = search rules in
    listed_end c.args.queue.now c.under.last c.under.jobs.items c.next_under.result c.under.invariant
    c.next_under.ensures end

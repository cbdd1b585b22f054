use Rattle.std.proofs.Common.{◌≡◌, ◌++◌, take}
use Rattle.auto_cluster.specs.Links.{ends_from}
use Rattle.auto_cluster.proofs.reaching.add_ends.Given as goal

abbrev pub invariant-loop-link : goal.invariant-loop-link
invariant-loop-link l = l.pending.items ≡ l.fn.pending.items ++ ends_from l.name (take l.link-index l.list)

-- One of the matches is live where one of those that are left is.
use Rattle.std.proofs.Common.{◌↔◌, drop}
use Rattle.pool_rules.specs.Judging.{IsSomeLive}
use Rattle.pool_rules.proofs.judging.is_some_live.Given as goal

abbrev pub invariant-loop-found : goal.invariant-loop-found
invariant-loop-found l = IsSomeLive l.state l.list l.judged l.reading
    ↔ IsSomeLive l.state (drop l.found-index l.list) l.left l.reading

-- What comes of the runs that are left is what comes of all.
use Rattle.std.proofs.Common.{◌≡◌, drop}
use Rattle.schedd_state.specs.Reopening.{claims_behind, found_claims}
use Rattle.schedd_core.proofs.reopened.found_claims.Given as goal

abbrev pub invariant-loop-run : goal.invariant-loop-run
invariant-loop-run l = claims_behind l.queue (drop l.run-index l.runs) l.claims.items
    ≡ found_claims l.queue l.runs

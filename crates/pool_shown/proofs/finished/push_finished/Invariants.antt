-- The entries so far, with those of the jobs above the last key, are all.
use Rattle.std.proofs.Common.{◌≡◌, ◌++◌, length}
use Rattle.std.specs.Prelude.{filter_map}
use Rattle.std.specs.Option.{option_copied}
use Rattle.pool_parts.proofs.Walks.{rest_of}
use Rattle.pool_shown.specs.ShownJobs.{done_entry}
use Rattle.pool_shown.proofs.finished.push_finished.Given as goal

abbrev pub invariant-finished : goal.invariant-finished
invariant-finished l = l.entries ++ filter_map done_entry (rest_of (option_copied l.last) l.finished)
    ≡ l.initial.entries ++ filter_map done_entry l.finished

abbrev pub decreases-finished : goal.decreases-finished
decreases-finished l = length (rest_of (option_copied l.last) l.finished)

-- None of the entries so far is of the job.
use Rattle.std.proofs.Common.{◌≡◌, drop}
use Rattle.pool_view.specs.Views.{entry_at}
use Rattle.pool_view.proofs.safe.entry_at.Given as goal

abbrev pub invariant-loop-entry : goal.invariant-loop-entry
invariant-loop-entry l = entry_at l.job (drop l.entry-index l.entries) ≡ entry_at l.job l.entries

-- None of the entries so far is of the slot.
use Rattle.std.proofs.Common.{◌≡◌, drop}
use Rattle.pool_view.specs.Views.{ad_at}
use Rattle.pool_view.proofs.safe.ad_at.Given as goal

abbrev pub invariant-loop-entry : goal.invariant-loop-entry
invariant-loop-entry l = ad_at l.slot (drop l.entry-index l.entries) ≡ ad_at l.slot l.entries

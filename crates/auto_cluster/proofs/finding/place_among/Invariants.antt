-- The part stands at none of the places so far.
use Rattle.std.proofs.Common.{take, Some, slice_get}
use Rattle.std.specs.Prelude.{◌≢◌}
use Rattle.std.specs.List.{All}
use Rattle.auto_cluster.proofs.finding.place_among.Given as goal

abbrev pub invariant-loop-place : goal.invariant-loop-place
invariant-loop-place l = All (λ i. slice_get l.parts i ≢ Some l.part) (take l.place-index l.places)

use Rattle.std.proofs.Common.{◌≡◌}
use Rattle.pool_tables.specs.Links.{empty_boxes}
use Rattle.pool_tables.proofs.links.empty_boxes.Given as goal

abbrev pub invariant-loop-place : goal.invariant-loop-place
invariant-loop-place l = l.boxes.items ≡ empty_boxes l.place

-- The table has the attributes so far.
use Rattle.std.proofs.Common.{◌≡◌, take}
use Rattle.ad_tree.proofs.ad.Ad.alone_copy.Given as goal

abbrev pub invariant-loop-place : goal.invariant-loop-place
invariant-loop-place l = l.table ≡ take l.place l.self

-- What the attributes so far add.
use Rattle.std.proofs.Common.{◌≡◌, min, take}
use Rattle.ad_parse.specs.PrintedSize.{ad_bytes}
use Rattle.ad_parse.proofs.size.printed_size.Given as goal

abbrev pub invariant-loop-place : goal.invariant-loop-place
invariant-loop-place l = l.size ≡ min (ad_bytes (take l.place l.ad)) 18446744073709551615

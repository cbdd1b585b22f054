-- What is left leads where the name does.
use Rattle.std.proofs.Common.{◌≡◌, drop}
use Rattle.ad_rows.specs.Digests.{name_fed}
use Rattle.ad_rows.proofs.attribute.feed_name.Given as goal

abbrev pub invariant-loop-byte : goal.invariant-loop-byte
invariant-loop-byte l = name_fed l.fed (drop l.byte-index l.byte-items) ≡ name_fed l.fn.state l.byte-items

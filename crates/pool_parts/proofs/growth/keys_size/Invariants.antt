-- The size so far, with the keys that are left, is the size of all.
use Rattle.std.proofs.Common.{◌≡◌, ◌+◌, drop}
use Rattle.pool_parts.specs.Growth.{keys_count}
use Rattle.pool_parts.proofs.growth.keys_size.Given as goal

abbrev pub invariant-loop-key : goal.invariant-loop-key
invariant-loop-key l = l.size + keys_count (drop l.key-index l.keys) l.queue ≡ keys_count l.keys l.queue

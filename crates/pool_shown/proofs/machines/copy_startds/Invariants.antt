-- The copy so far is a prefix of the startds.
use Rattle.std.proofs.Common.{◌≡◌, take}
use Rattle.pool_shown.proofs.machines.copy_startds.Given as goal

abbrev pub invariant-loop-startd : goal.invariant-loop-startd
invariant-loop-startd l = l.copied.items ≡ take l.startd-index l.startds

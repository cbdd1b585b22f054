-- No slot before is one that the job matches.
use Rattle.std.proofs.Common.{◌≡◌, false, take}
use Rattle.thin_pool.specs.Pairs.{fits_any}
use Rattle.thin_pool.proofs.next.first_fit.Given as goal

abbrev pub invariant-loop-slot : goal.invariant-loop-slot
invariant-loop-slot g l = fits_any (take l.slot-index l.slots) l.ad l.now ≡ false

use Rattle.std.proofs.Common.{◌≡◌, false, take}
use Rattle.ad_eval.specs.Match.{any_match}
use Rattle.ad_eval.proofs.mismatch.first_match.Given as goal

abbrev pub invariant-loop-i : goal.invariant-loop-i
invariant-loop-i g l = any_match (take l.i l.jobs) l.slots l.now ≡ false
